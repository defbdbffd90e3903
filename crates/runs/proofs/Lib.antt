pub mod Search
pub mod Puts
pub mod Blockwise
pub mod Copying
pub mod Bytes
pub mod Specials
