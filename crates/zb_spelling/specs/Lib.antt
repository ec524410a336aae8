pub mod Spelling
pub mod Unspelling
pub mod Parts
pub mod Reading
pub mod Limits
