pub mod Appending
pub mod Heads
pub mod Once
pub mod Puts
pub mod Standing
pub mod Texts
