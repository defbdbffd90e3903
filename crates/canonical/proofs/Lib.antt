pub mod Append
pub mod Between
pub mod Canonical
pub mod Characters
mod Examples
pub mod LastCharacter
pub mod Own
pub mod Singles
pub mod Spaced
