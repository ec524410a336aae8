pub mod Changing
pub mod Faults
pub mod Formatting
pub mod Laws
pub mod Naming
pub mod Reading
pub mod Says
pub mod Standing
