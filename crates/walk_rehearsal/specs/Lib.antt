pub mod Rehearsal
pub mod Counts
pub mod Turns
