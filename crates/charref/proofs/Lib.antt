pub mod Encoding
pub mod Numbers
pub mod Rules
mod Examples
pub mod Ascii
pub mod Errors
pub mod Reading
pub mod Apart
