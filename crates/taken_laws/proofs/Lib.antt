pub mod Lists
pub mod Connections
pub mod Desks
pub mod Firsts
pub mod Ups
pub mod Plans
