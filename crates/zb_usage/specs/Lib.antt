pub mod Uses
pub mod Noting
pub mod Seen
pub mod Choosing
