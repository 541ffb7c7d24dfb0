pub mod Rows
pub mod Pending
pub mod Lanes
pub mod Turns
pub mod Choices
