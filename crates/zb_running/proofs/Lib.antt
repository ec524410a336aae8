-- Lemmas on the running of a system.
pub mod OfSystems
pub mod InTurns
pub mod Reported
pub mod Shown
pub mod Blocked
pub mod Steps
pub mod Holders
pub mod Runs
pub mod Ended
