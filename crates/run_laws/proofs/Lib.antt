mod Shares
mod Played
