pub mod OwnCodes
pub mod Taken
pub mod Begun
pub mod Walks
pub mod Choices
pub mod States
mod Heard
mod Missed
mod Joined
