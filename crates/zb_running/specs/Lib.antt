pub mod Reports
pub mod Telling
pub mod Resting
pub mod Lines
