pub mod Finding
pub mod Goings
pub mod Plain
pub mod Planned
pub mod Serving
pub mod Standing
pub mod Stripes
