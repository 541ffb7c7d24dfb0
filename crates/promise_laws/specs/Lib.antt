pub mod OneList
pub mod Headline
