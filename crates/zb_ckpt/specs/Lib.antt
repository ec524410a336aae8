pub mod Faults
pub mod Laws
pub mod Reading
pub mod Root
pub mod Says
pub mod Write
