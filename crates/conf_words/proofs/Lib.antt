pub mod PhysicalLines
pub mod WordSteps
pub mod Encoded
pub mod Contents
pub mod Groups
pub mod WordPlaces
