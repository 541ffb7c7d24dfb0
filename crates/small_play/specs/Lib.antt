pub mod PlayState
pub mod FedMessages
pub mod Waiting
pub mod Plays
pub mod Beginning
pub mod Feeding
pub mod Settling
