pub mod OrderLaws
pub mod ReplyLaws
