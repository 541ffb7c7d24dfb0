pub mod HeldByList
pub mod Statuses
pub mod LeaveTaken
pub mod Versions
pub mod ExchangeOver
pub mod ClientHolds
pub mod LeaveGiven
pub mod Told
