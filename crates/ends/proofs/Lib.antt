pub mod Logic
pub mod ListLaws
pub mod AnswerLaws
pub mod ClockLaws
pub mod SendLaws
pub mod RunLaws
pub mod CopyLaws
pub mod WordLaws
