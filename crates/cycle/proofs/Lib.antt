pub mod Exhausted
pub mod Cycle
