pub mod Around
pub mod Known
pub mod Logging
pub mod Current
pub mod Sound
pub mod Effects
