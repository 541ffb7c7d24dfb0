pub mod Among
pub mod Alone
pub mod Passed
pub mod RegularOpen
pub mod BindOpen
pub mod BindLives
mod Lives
