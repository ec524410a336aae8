pub mod Answers
pub mod Entering
pub mod Laws
pub mod Nodes
pub mod Opening
pub mod Taking
