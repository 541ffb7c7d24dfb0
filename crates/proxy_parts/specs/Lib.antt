pub mod States
pub mod Room
pub mod Clients
pub mod Connections
