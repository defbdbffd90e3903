pub mod ByDepth
pub mod Zeros
pub mod NamesByDepth
pub mod Needs
pub mod LeastExamples
