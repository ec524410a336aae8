pub mod Runs
pub mod Merging
pub mod Looking
pub mod Operations
pub mod Wanting
pub mod Delivering
pub mod Forming
pub mod Reading
