pub mod Taking
pub mod Fits
pub mod Kept
pub mod Maps
pub mod Severs
pub mod Unplaced
