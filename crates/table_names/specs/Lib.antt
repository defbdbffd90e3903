pub mod NameChars
pub mod NameTerms
