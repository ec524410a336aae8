pub mod Counting
pub mod Following
pub mod Held
pub mod Moves
pub mod Settling
pub mod Twinning
