pub mod LineEnds
pub mod Writing
pub mod Normal
