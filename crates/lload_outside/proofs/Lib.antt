pub mod CallSteps
pub mod FailedReads
