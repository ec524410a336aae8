pub mod Ending
pub mod Gained
pub mod Making
pub mod Seeking
