mod Lists
mod Changes
mod Losses
mod Releases
mod Gains
mod Arrivals
mod Turns
mod Picking
mod Hearing
mod Rings
mod Endings
mod Lanes
mod NewTables
pub mod Placing
pub mod Earlier
