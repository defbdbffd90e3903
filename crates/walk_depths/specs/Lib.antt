pub mod LeastDepth
pub mod Summary
