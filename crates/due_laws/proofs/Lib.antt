pub mod Waits
pub mod Fit
pub mod Firsts
