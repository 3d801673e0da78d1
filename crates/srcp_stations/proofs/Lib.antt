pub mod DatasetLaws
pub mod JoinLaws
pub mod NoiseLaws
pub mod NumberLaws
pub mod ReadLaws
pub mod SaidLaws
pub mod TellLaws
pub mod TextLaws
