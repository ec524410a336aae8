pub mod Desks
pub mod Going
pub mod Serving
pub mod Ahead
