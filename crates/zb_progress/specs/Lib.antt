pub mod Fresh
pub mod Left
