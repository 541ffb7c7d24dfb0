pub mod Sides
pub mod Forks
