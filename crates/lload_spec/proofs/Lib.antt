pub mod Growth
pub mod PickLemmas
pub mod Texts
pub mod Pushed
mod LaterPlans
mod Whole
pub mod Tested
