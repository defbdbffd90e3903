pub mod Bytes
pub mod Version
pub mod Utf8
pub mod Answers
pub mod Refusals
pub mod Call
pub mod Blocks
pub mod Simple
