pub mod Quoting
pub mod Lines
pub mod Reading
pub mod WordMaking
pub mod Examples
pub mod Locating
