pub mod Counted
pub mod Named
pub mod Newest
pub mod Closed
