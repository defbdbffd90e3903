mod Examples
pub mod Numbers
pub mod Decoding
pub mod Faults
pub mod Clean
pub mod Texts
pub mod Readers
