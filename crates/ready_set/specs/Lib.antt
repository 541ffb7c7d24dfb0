pub mod Keys
pub mod Readies
