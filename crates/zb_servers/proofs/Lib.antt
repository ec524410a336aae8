pub mod Naming
pub mod Ruling
pub mod Placed
pub mod Carrying
pub mod Bits
