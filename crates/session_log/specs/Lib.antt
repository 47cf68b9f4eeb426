pub mod Meaning
pub mod Layout
pub mod Reading
pub mod Writing
pub mod Answers
pub mod Private
pub mod Claims
