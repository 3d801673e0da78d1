-- What holds of every core, and what its walks over places and rows do.
pub mod PlaceLaws
pub mod EveryPlaceIsTold
pub mod ChangesOneByOne
pub mod DueInOneWalk
pub mod PlacesCover
pub mod PanelsAreListed
pub mod PanelsStay
pub mod SessionRows
pub mod UnsentBytes
pub mod CoreStaysSound
pub mod LinesAsk
pub mod RepliesStayUnsent
pub mod RefusalsChangeNothing
pub mod LinesAreFound
pub mod AnswersGainBytes
pub mod RowLists
pub mod OpeningRowsAreStamped
