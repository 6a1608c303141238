pub mod Local
pub mod Sorts
