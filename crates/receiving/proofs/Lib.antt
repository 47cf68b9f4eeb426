pub mod JudgeLaws
pub mod MapLaws
