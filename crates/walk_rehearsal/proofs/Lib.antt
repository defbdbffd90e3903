pub mod Spans
pub mod WalkNumbers
pub mod Verdicts
pub mod Reports
pub mod Turning
pub mod Examples
