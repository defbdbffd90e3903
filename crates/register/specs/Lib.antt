pub mod Entries
pub mod Stored
pub mod RegisterCalls
pub mod CallLists
pub mod Places
