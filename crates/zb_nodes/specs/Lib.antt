pub mod Among
pub mod Wished
pub mod Moving
pub mod Halting
pub mod Seen
