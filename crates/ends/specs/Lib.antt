pub mod Lists
pub mod Constants
pub mod Outcomes
pub mod Clock
pub mod Answers
pub mod Sending
pub mod Words
pub mod FirstFrames
