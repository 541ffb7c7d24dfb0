mod Counts
mod Ended
mod Canceled
mod Unsent
mod Owed
mod Clause
