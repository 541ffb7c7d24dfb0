pub mod Once
pub mod Held
pub mod LeaveOnce
pub mod Closings
pub mod Opens
pub mod LeaveOpen
pub mod Frees
pub mod Owed
