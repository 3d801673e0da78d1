pub mod Names
mod ExamplesOfServing
mod OnlyRoomSends
mod Stream
mod RoomSendsWhatIsLent
mod VisitsSendWhatIsTaken
mod VisitsFeedWhatIsHanded
mod CallsByTurnAndPeer
mod VisitsCarryStreams
pub mod TurnsCarryStreams
pub mod NumbersOfKeys
pub mod SlotsAreTakenAndFreed
pub mod CallsAreAdded
pub mod WritesFollow
pub mod VisitsFollow
pub mod DoorIsCalled
pub mod AcceptedPeersConnect
pub mod SlotsFollow
pub mod TurnsFollow
pub mod ServingFollows
mod CarriageReturns
pub mod PiecesWeighEnough
pub mod PacedTurnsSparePanels
pub mod TurnsWeighEnough
pub mod ReadsSparePanels
pub mod PacesLeaveReserve
pub mod Settling
mod ReadsFollow
mod LendingsTellNothing
