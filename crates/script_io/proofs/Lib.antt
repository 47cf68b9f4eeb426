pub mod Reading
pub mod NoEvent
