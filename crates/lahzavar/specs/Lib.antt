pub mod Answers
pub mod Lent
pub mod Storing
pub mod Frames
pub mod Matching
pub mod Events
pub mod Car
pub mod Maps
