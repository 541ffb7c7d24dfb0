pub mod Flat
pub mod Eligible
pub mod Tiers
mod Backends
pub mod One
