mod Prelude
pub mod Answers
pub mod Chosen
pub mod Deeds
pub mod Frames
pub mod Names
pub mod Removal
pub mod Removes
pub mod Rows
pub mod Whole
pub mod Causes
