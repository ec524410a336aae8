pub mod Drafts
pub mod Ops
pub mod Wants
pub mod Sealing
pub mod Ranges
