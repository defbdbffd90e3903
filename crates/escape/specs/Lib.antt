pub mod Escape
pub mod Scan
