-- Lemmas on the course of a system.
pub mod Going
pub mod Clients
pub mod Stepping
pub mod Giving
