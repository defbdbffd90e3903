pub mod External
pub mod Marked
pub mod Strict
pub mod Readings
pub mod Standard
pub mod Nmtokens
pub mod MarkedTable
pub mod Unused
pub mod UnusedBytes
mod UnusedExamples
pub mod Register
mod NmtokensMet
pub mod C14n
pub mod SmallScratch
pub mod Reached
pub mod Refused
pub mod Places
pub mod WhenRefused
pub mod Allowed
pub mod BeforeReference
mod Inhabited
mod ReachedMet
pub mod LeastDepths
mod LeastDepthsMet
pub mod DeclarationsRead
pub mod Declarations
mod DeclarationsMet
pub mod Rehearsals
pub mod RehearsalsMet
