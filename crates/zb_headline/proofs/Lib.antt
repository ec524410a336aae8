pub mod Faultless
pub mod Reasoned
pub mod Wrong
