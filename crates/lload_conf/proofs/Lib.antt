pub mod Answering
pub mod Drafts
pub mod Lengths
pub mod Limits
pub mod Repeats
pub mod Tables
pub mod Texts
mod RunSettings
pub mod Findings
