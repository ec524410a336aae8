pub mod Answered
pub mod Behind
pub mod Looking
pub mod Refused
pub mod Risen
pub mod Served
pub mod Sized
