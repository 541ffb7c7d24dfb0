pub mod Sides
pub mod Forks
pub mod Numbers
pub mod Waits
