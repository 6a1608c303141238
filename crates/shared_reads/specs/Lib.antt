pub mod Counts
pub mod Desks
pub mod Kept
pub mod Private
