pub mod Places
pub mod Counts
pub mod Rows
pub mod Turning
pub mod Latencies
pub mod Fresh
