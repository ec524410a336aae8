pub mod Called
pub mod Chosen
pub mod Kept
pub mod Plates
pub mod Recorded
pub mod Streamed
