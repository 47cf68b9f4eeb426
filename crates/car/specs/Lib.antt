pub mod Steps
pub mod Reports
pub mod Judge
pub mod Frames
