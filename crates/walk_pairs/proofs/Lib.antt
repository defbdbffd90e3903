pub mod LaterWalks
pub mod HeldCounts
pub mod PairWords
pub mod Stretches
pub mod PairExamples
