pub mod Octets
pub mod Fronts
pub mod FirstMessage
