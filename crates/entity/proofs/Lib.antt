pub mod Reading
pub mod Commands
pub mod Parts
pub mod Words
pub mod Lookup
pub mod Predefined
pub mod Referents
pub mod Tables
mod Examples
