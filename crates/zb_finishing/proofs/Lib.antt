-- Lemmas on the finish of nodes.
pub mod Places
pub mod Resting
pub mod Emptied
pub mod Said
pub mod Sized
pub mod Asked
pub mod Alone
pub mod Reported
pub mod Begun
