pub mod Clients
pub mod Telling
pub mod Giving
