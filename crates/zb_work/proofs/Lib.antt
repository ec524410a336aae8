pub mod Matching
pub mod Missing
pub mod Rising
