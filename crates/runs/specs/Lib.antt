pub mod RunEnds
pub mod Specials
