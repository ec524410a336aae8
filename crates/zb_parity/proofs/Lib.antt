pub mod Lanes
pub mod Sharing
