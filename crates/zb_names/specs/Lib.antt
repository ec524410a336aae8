pub mod Shown
pub mod Placing
pub mod Sound
pub mod Answers
pub mod Listing
pub mod Loading
pub mod Changing
