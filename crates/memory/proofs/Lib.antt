pub mod Shaped
pub mod Characters
pub mod Slots
pub mod Unhidden
pub mod Keeping
pub mod Stretches
pub mod Fitted
pub mod Levels
pub mod Readings
pub mod Turns
pub mod Hits
mod Samples
