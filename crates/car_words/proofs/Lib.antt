pub mod StateLaws
pub mod ReportWords
pub mod CountLaws
pub mod HeadWords
pub mod Meant
pub mod WholeLaws
pub mod WipedLaws
