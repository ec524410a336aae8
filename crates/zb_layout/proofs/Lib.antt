pub mod Reaching
pub mod Covering
