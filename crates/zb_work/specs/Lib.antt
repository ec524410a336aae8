pub mod Blocks
pub mod Steps
pub mod Fitting
pub mod Finding
