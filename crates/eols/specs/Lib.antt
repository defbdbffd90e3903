pub mod LineEnds
pub mod Stops
