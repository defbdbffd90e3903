pub mod Standing
pub mod Seeking
pub mod Adding
pub mod Surveying
