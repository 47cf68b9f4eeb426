pub mod SameLaws
pub mod ReplyLaws
pub mod RefusalLaws
pub mod TurnLaws
pub mod WalkLaws
pub mod ReadLaws
pub mod ClaimsHold
