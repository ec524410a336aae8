pub mod HeldStripes
pub mod Logs
