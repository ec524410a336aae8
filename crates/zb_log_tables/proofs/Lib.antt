pub mod Stripes
pub mod Raising
pub mod LogPlaces
pub mod Mapping
pub mod Changes
