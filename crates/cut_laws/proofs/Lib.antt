mod Prelude
pub mod Children
pub mod Local
pub mod Restart
pub mod Sorts
