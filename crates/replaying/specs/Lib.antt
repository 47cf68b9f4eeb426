pub mod Replaying
pub mod Private
pub mod Claims
