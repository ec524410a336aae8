pub mod Filling
pub mod Weights
