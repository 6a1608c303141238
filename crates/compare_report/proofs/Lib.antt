mod Prelude
pub mod Both
pub mod Chosen
pub mod Passed
pub mod Picked
pub mod Steps
pub mod Succeeds
