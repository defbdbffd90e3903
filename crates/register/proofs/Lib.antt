pub mod StoredLaws
pub mod Counts
pub mod Sits
mod Order
pub mod Replays
pub mod Keeping
pub mod Comparing
pub mod Boundaries
pub mod Checking
mod Examples
