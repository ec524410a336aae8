-- Lemmas on the steps that a client may still take.
pub mod Falling
pub mod Rising
pub mod Versions
pub mod Committing
pub mod Stepping
pub mod Requests
pub mod Missing
pub mod Wanting
pub mod Ongoing
pub mod LookingUp
pub mod Arriving
