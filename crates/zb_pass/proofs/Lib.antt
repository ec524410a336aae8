pub mod Asked
pub mod Goings
pub mod Moved
pub mod Served
