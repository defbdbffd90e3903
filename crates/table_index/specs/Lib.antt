pub mod NameHash
pub mod Index
