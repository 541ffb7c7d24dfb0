pub mod Folds
pub mod Joins
pub mod Fits
mod Tested
