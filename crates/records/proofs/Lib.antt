pub mod HeardLaws
pub mod LoopLaws
pub mod FillLaws
pub mod ProfileLaws
pub mod PlaceLaws
pub mod MeanLaws
pub mod TimerLaws
pub mod ValidationLaws
