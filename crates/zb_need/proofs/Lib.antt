pub mod Numbers
pub mod Turning
pub mod Weighing
pub mod Storing
pub mod Beginning
