pub mod Places
mod Entries
mod Index
mod Standing
mod Identifiers
mod Tables
mod ListPlaces
mod Runs
