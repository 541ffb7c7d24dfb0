pub mod Turns
pub mod Views
pub mod Told
pub mod Rule
pub mod Held
