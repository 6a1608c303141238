pub mod Orders
pub mod Spelling
pub mod Prelude
pub mod Private
