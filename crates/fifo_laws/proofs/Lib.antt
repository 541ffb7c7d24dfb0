pub mod Givings
pub mod Quiet
pub mod Sents
pub mod Unanswered
pub mod SentOnce
