pub mod AsciiNames
pub mod TailBits
pub mod CharWidths
pub mod NamesPast
pub mod WideNames
pub mod Spelled
