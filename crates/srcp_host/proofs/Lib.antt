pub mod ServedHere
pub mod SocketsFollowTheCourse
pub mod PacedLogsKeepPanels
pub mod SettledPanelsHold
