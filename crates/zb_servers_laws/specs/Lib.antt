pub mod Indexed
pub mod Answered
