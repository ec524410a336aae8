pub mod Reading
pub mod Points
pub mod Fits
pub mod Text
pub mod Script
pub mod Runs
pub mod Rows
