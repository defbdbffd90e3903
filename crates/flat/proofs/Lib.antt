pub mod References
pub mod Writing
pub mod Halting
pub mod Going
