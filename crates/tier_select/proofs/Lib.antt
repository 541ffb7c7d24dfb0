pub mod Bits
pub mod Candidates
pub mod Drawing
pub mod Firsts
pub mod Means
pub mod Orders
pub mod Rising
pub mod Standings
