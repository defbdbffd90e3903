pub mod Collapse
pub mod NextToken
pub mod Tokens
pub mod Stage
pub mod Checked
