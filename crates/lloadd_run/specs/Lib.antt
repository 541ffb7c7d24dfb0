pub mod Statuses
pub mod Scripts
pub mod Amounts
pub mod Outcomes
pub mod Words
pub mod Halts
pub mod Playing
pub mod Checking
