pub mod Lengths
pub mod Replies
pub mod Lookups
