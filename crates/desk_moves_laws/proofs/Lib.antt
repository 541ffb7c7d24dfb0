pub mod DeskPicks
pub mod DeskTakes
pub mod DeskChooses
pub mod DeskFollowing
