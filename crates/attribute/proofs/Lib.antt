pub mod Walked
pub mod Heads
pub mod InHand
pub mod Values
pub mod Stops
pub mod Blanks
pub mod Single
pub mod Guards
pub mod Reread
pub mod Deeper
pub mod LookedUp
pub mod Strict
pub mod Guarded
pub mod StrictReread
pub mod StrictValues
pub mod StrictForms
pub mod Outer
pub mod Checked
pub mod Shifted
mod Examples
mod StrictExamples
mod LookedUpExamples
