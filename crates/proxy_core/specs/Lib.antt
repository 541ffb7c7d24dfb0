pub mod States
pub mod Turned
pub mod Events
pub mod Runs
pub mod Made
