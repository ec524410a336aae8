pub mod Under
pub mod Leading
pub mod Taken
pub mod Opened
pub mod Wrong
