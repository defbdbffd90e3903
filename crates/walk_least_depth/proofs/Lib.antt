pub mod SmoothNeeds
pub mod NeedRooms
pub mod NeedTurns
pub mod LeastAnswers
