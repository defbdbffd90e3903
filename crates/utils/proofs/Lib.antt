pub mod Rest
pub mod Trim
pub mod Cuts
pub mod Boundary
pub mod Pieces
mod Examples
