pub mod View
pub mod Write
pub mod Scan
pub mod Levels
pub mod Shown
