pub mod BoardLaws
pub mod FirstLaws
pub mod LineLaws
pub mod ReplyLaws
pub mod Settlings
