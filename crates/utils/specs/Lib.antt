pub mod Trim
pub mod CData
pub mod Blocks
pub mod Pieces
