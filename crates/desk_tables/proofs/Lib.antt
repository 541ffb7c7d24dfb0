mod Holders
pub mod Orders
pub mod Picking
