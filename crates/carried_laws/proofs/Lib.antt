pub mod Stays
pub mod Letters
pub mod Forwards
pub mod Taken
pub mod BindReplies
pub mod TurnHeads
pub mod Replies
pub mod BindWalk
pub mod RegularReplies
mod Identities
