pub mod Advice
pub mod Converting
pub mod Nearest
pub mod Notes
pub mod Overview
pub mod Shown
pub mod Telling
pub mod Texts
