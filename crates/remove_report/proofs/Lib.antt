mod Prelude
pub mod Found
pub mod Steps
pub mod Succeeds
