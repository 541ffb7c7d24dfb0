mod Settles
pub mod Successes
mod Late
