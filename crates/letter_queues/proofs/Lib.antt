pub mod Batches
pub mod Firsts
pub mod Inserts
pub mod Lowest
pub mod PartOrder
pub mod QueueLaws
pub mod Spots
