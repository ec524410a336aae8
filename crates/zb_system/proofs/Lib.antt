-- Lemmas on the nodes of a system.
pub mod Telling
pub mod AnyTree
pub mod Changed
pub mod Attached
pub mod Starting
pub mod Giving
pub mod FirstReads
pub mod ReadsLeft
pub mod Joining
pub mod Quiet
pub mod Inside
pub mod Looking
pub mod Asking
pub mod Storing
pub mod Committing
pub mod EachStep
pub mod Resting
