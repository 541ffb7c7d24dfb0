pub mod Places
pub mod Tells
