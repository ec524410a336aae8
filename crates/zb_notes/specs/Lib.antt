pub mod Notes
pub mod Notable
