pub mod ComesLaws
pub mod StepLaws
pub mod SendLaws
pub mod ReportLaws
pub mod ChoiceLaws
pub mod TickLaws
pub mod JudgeLaws
pub mod FrameLaws
