pub mod Table
pub mod Binding
pub mod Steps
pub mod Commands
