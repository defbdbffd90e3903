pub mod Numbers
pub mod RoundTrip
pub mod Demands
pub mod CallDemands
mod Inhabited
pub mod Refusals
pub mod Again
pub mod CDataCalls
mod Seams
pub mod Lines
pub mod Decoding
pub mod Words
pub mod Agreement
pub mod Standard
pub mod StandardDepth
pub mod AnyDepth
pub mod StrictStandard
pub mod StrictValues
pub mod StrictDemands
mod StrictInhabited
mod Examples
