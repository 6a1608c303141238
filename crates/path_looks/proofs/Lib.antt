mod Prelude
pub mod EachOnce
pub mod Told
