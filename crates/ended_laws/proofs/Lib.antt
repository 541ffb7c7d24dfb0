pub mod Reigns
pub mod Letters
pub mod RegularEnds
pub mod RegularTold
pub mod BindLetters
pub mod BindOver
pub mod BindSettled
pub mod BindTold
pub mod Heard
pub mod ClientReturns
pub mod Latencies
mod DeskTold
