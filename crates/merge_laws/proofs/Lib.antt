mod Quiet
mod Earliest
mod Steps
mod Named
mod Merged
