pub mod PartAtWork
pub mod PlanAtWork
pub mod ReadAtWork
pub mod Restoring
