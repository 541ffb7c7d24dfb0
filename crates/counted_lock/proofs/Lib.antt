mod Marks
mod Listed
mod Ticketing
mod Sharing
mod Ending
mod Resting
