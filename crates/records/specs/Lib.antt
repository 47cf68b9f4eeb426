pub mod Heard
pub mod Means
pub mod Requests
pub mod Places
pub mod Timers
pub mod Validation
