pub mod Held
pub mod Rooms
pub mod Texts
pub mod Hand
