pub mod Places
pub mod Placing
pub mod Sealing
pub mod Logs
pub mod Runs
