pub mod Left
pub mod Holding
pub mod Entries
