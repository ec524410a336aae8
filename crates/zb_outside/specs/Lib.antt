pub mod Counts
pub mod Fuse
pub mod Keeping
pub mod Meaning
pub mod Platters
pub mod Ranges
pub mod Runs
pub mod Streams
