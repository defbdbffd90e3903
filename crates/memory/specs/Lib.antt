pub mod Slots
pub mod Levels
