pub mod FileLists
pub mod Effects
pub mod Steps
