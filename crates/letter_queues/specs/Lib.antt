pub mod Batches
pub mod Laws
pub mod Queues
pub mod Rows
