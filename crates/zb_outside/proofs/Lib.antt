pub mod Blown
pub mod Causes
pub mod Keeping
pub mod Runs
pub mod Time
pub mod Touching
