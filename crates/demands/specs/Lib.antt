pub mod Demands
pub mod StrictDemands
pub mod CallDemands
pub mod Characters
pub mod Standard
pub mod Again
pub mod CDataCalls
