mod Lent
pub mod Passing
mod Examples
