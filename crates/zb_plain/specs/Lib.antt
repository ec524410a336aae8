pub mod Standing
pub mod Answering
pub mod Indexed
pub mod Leading
pub mod Delivering
