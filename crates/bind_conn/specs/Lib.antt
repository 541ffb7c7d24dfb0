pub mod Part
pub mod Told
pub mod Met
pub mod Most
