pub mod Conn
pub mod Kept
pub mod Did
pub mod Closing
pub mod Dropped
pub mod Turned
pub mod Most
