pub mod Fills
pub mod Once
pub mod Pages
pub mod Places
pub mod Roots
