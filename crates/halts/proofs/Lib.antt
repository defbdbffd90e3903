pub mod Smooth
pub mod Spaces
