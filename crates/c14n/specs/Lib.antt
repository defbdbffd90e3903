pub mod C14n
pub mod Flags
