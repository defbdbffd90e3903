pub mod Spaces
pub mod Stage
pub mod NextToken
pub mod Tokens
pub mod Handing
mod Examples
