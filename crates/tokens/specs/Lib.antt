pub mod Tokens
pub mod Outcome
pub mod Lookups
pub mod Walking
pub mod Seen
pub mod Memory
