pub mod Seen
pub mod Telling
pub mod Wishing
pub mod Answering
pub mod Hearing
pub mod Calling
pub mod Working
