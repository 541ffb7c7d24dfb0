pub mod LinkSteps
pub mod ReadSteps
