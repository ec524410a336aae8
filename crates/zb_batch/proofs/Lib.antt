pub mod Sizes
pub mod Once
pub mod Missing
pub mod Ops
pub mod Whole
