pub mod Append
pub mod Faults
pub mod Journal
pub mod Laws
pub mod Putting
pub mod Reading
pub mod Spelling
