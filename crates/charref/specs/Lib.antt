pub mod CharNumbers
pub mod Chars
pub mod CharRef
pub mod Reading
pub mod Errors
