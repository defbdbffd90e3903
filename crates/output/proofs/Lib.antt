pub mod Laid
pub mod Written
pub mod Runs
pub mod Writers
pub mod Finish
pub mod Clip
