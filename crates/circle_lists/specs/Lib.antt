pub mod Spelling
pub mod Checkpoint
pub mod Private
