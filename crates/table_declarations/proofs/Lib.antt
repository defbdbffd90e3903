pub mod Keyword
pub mod DeclaredNames
pub mod Definitions
pub mod Offsets
pub mod Gathering
pub mod Outcomes
