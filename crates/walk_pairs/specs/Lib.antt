pub mod Forecast
pub mod PairSums
pub mod Stretches
