pub mod States
pub mod Stands
pub mod Rounds
pub mod Laws
pub mod Pieces
