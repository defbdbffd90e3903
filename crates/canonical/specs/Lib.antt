pub mod Canonical
pub mod LastCharacter
pub mod FormEnds
pub mod Runs
pub mod Starts
