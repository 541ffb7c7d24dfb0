pub mod Held
pub mod Cached
pub mod History
pub mod Telling
pub mod Laws
