pub mod ListLaws
pub mod FamilyGrowth
pub mod ClientGrowth
pub mod ConnectionGrowth
