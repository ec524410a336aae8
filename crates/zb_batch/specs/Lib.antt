pub mod Batches
pub mod Reading
pub mod Shapes
pub mod Spelling
