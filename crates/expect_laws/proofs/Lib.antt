pub mod Rows
pub mod Acts
pub mod Turns
pub mod Walk
