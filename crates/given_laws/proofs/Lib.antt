pub mod Counts
mod Behind
mod Kept
mod Asked
mod Told
mod Final
mod Open
mod Given
mod Join
