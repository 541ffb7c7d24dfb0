pub mod Signals
pub mod Silent
pub mod Clients
pub mod Goes
pub mod Said
pub mod Connections
pub mod Owed
pub mod Rest
