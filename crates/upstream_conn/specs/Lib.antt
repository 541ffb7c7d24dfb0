pub mod Waits
pub mod Told
pub mod Part
pub mod Ticks
pub mod Most
