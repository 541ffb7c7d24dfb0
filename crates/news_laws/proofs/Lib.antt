pub mod Gives
pub mod Stands
pub mod Hears
