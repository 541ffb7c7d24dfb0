pub mod ListLaws
pub mod Induction
pub mod Giving
pub mod Same
pub mod FitGiving
