mod Prelude
pub mod Ascending
