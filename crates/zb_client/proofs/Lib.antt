pub mod Aims
pub mod Answered
pub mod Fits
pub mod Heard
