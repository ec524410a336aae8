pub mod Placing
pub mod Exclusive
pub mod Fragments
pub mod Holding
pub mod Carrying
pub mod Listing
pub mod Rules
