pub mod FindLaws
pub mod PlaceLaws
pub mod LayoutLaws
pub mod GrammarLaws
pub mod BusLaws
pub mod WordTextLaws
pub mod BitLaws
