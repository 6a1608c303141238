pub mod Grouping
pub mod Private
pub mod Shown
pub mod Told
