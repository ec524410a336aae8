pub mod Reaching
pub mod Taking
pub mod Turning
