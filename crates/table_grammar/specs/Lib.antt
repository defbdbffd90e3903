pub mod EntityValue
pub mod EntityDecl
pub mod TableWritten
pub mod Productions
