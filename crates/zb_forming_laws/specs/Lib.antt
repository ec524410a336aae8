pub mod Resting
pub mod Flushing
