pub mod Asked
pub mod Given
pub mod Lost
pub mod Pieced
pub mod Stored
