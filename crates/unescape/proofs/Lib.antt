pub mod Stops
pub mod Known
pub mod Turns
pub mod Lending
pub mod Unescaped
pub mod Shifted
pub mod LookedUpInText
mod Examples
