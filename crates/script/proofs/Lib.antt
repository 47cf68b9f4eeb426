pub mod OutputLaws
pub mod ReplyLaws
pub mod CallLaws
pub mod EventLaws
pub mod LevelLaws
pub mod ReductionLaws
pub mod MeaningLaws
