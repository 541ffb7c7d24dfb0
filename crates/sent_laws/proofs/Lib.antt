pub mod Walk
pub mod Forwarded
pub mod Places
