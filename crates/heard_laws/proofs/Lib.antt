pub mod Gone
pub mod Pending
pub mod Heard
pub mod Chained
pub mod BindFrees
pub mod BindPending
pub mod AskedOrPinned
pub mod BindHeard
pub mod EndsHeard
mod InUse
