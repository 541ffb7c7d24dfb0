pub mod Flags
pub mod Turns
pub mod Members
pub mod Calls
