pub mod Heads
pub mod Walk
pub mod LookedUp
pub mod Strict
pub mod Steps
pub mod Form
pub mod Checks
