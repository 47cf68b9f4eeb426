pub mod OctetLaws
pub mod LoopLaws
pub mod ArrayLaws
