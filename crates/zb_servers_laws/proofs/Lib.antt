pub mod Planned
pub mod Asking
pub mod Indexing
pub mod ReadAnswers
pub mod WriteAnswers
