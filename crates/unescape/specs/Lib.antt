pub mod Unescape
pub mod Steps
pub mod LookedUpInText
