pub mod DeskSays
pub mod DeskFacts
pub mod DeskStands
pub mod DeskShare
