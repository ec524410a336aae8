pub mod Pending
pub mod Moves
pub mod Rows
pub mod Running
pub mod Headers
pub mod Ends
