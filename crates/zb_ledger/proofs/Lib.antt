pub mod Keys
pub mod Small
pub mod Giving
pub mod Looking
pub mod Telling
pub mod Taking
