pub mod Changed
pub mod Keeping
pub mod Once
pub mod Restored
pub mod Elsewhere
