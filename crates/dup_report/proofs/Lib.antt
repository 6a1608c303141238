mod Prelude
pub mod Steps
pub mod Succeeds
