pub mod Changes
pub mod Drafting
pub mod Free
pub mod Gathering
pub mod Indexed
pub mod Laws
pub mod Seen
pub mod Twins
