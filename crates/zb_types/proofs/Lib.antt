pub mod Splitting
pub mod KeyedLists
