pub mod Changing
pub mod Cases
pub mod Writing
pub mod Leaves
