pub mod Seen
pub mod Wishing
pub mod Answering
pub mod Hearing
pub mod Turned
pub mod Deltas
