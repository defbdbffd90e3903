pub mod Legal
pub mod FirstFault
