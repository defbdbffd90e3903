pub mod Filtering
pub mod Hashing
pub mod Clearing
pub mod Before
pub mod Sifting
