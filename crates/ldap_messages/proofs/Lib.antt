pub mod TaggedParts
pub mod LentParts
