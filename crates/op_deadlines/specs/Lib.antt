pub mod Due
pub mod Tree
pub mod TreeFalls
