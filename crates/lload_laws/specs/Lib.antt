pub mod ClientGrowth
pub mod ConnectionGrowth
pub mod ClientBinding
