pub mod Checks
pub mod Carried
mod Sents
mod Expiries
mod Binds
pub mod Holders
mod HolderWalk
mod HoldersAlone
