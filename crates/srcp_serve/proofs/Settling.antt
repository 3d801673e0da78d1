-- Panels that take what they are handed.
pub mod PanelsTakeTheirLines
pub mod VisitsWriteUntilNothingIsLeft
pub mod PanelsSettle
