pub mod Clocks
pub mod HarbourHeld
pub mod Harbours
pub mod Held
pub mod Plans
pub mod Tells
pub mod Waits
