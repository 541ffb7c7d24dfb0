pub mod Fitness
pub mod Linked
