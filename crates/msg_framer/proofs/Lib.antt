pub mod MoreOctets
pub mod Beginnings
pub mod Histories
pub mod Announcing
pub mod StreamLaws
