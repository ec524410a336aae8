pub mod Texts
pub mod Histories
pub mod Worked
pub mod Readings
pub mod Printed
