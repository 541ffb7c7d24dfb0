pub mod Part
pub mod Plans
pub mod States
pub mod Did
pub mod Turned
