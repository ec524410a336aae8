-- Lemmas on the lines of clients.
pub mod Taking
pub mod Answering
pub mod Owning
pub mod Staying
pub mod Replying
