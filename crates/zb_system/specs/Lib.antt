pub mod Nodes
pub mod Looking
pub mod Steps
pub mod Sound
pub mod First
