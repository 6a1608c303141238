pub mod Acts
pub mod Levels
pub mod Counts
pub mod Chain
pub mod Private
pub mod Fates
pub mod PathSets
