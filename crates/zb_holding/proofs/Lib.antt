pub mod Exclusives
pub mod Keys
pub mod Listed
pub mod Placings
pub mod Ruled
pub mod Shares
