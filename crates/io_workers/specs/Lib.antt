pub mod Configured
pub mod Places
pub mod Tree
pub mod TreeFalls
