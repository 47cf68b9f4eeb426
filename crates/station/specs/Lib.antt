pub mod Steps
pub mod Frames
pub mod Reports
pub mod Passing
