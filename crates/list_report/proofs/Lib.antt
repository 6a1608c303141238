mod Prelude
pub mod MadeWalk
pub mod Steps
pub mod Succeeds
