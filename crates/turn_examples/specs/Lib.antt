pub mod Runs
pub mod Changes
pub mod Scripts
pub mod Clients
pub mod Connections
pub mod Binds
pub mod Desks
pub mod Silences
