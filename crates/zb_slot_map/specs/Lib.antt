pub mod Changing
pub mod Freeing
pub mod Super
pub mod Tidy
pub mod Zeros
