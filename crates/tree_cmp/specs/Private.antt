pub mod Items
pub mod Steps
pub mod Reading
pub mod Sharing
pub mod Parts
