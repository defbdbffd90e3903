pub mod Numbering
pub mod Surveys
