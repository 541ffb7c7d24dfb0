pub mod ListLaws
pub mod ClientGrowth
pub mod ConnectionGrowth
pub mod ClientSums
pub mod ClientChoices
pub mod ClientBinding
