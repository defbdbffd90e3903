pub mod LeftPlaces
pub mod WhiteSpace
pub mod Literals
pub mod NameReads
pub mod ValueStops
pub mod EntityValues
pub mod CharRefs
pub mod EntityRefs
