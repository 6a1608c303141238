mod Prelude
pub mod Counted
pub mod Hired
pub mod Taken
pub mod Workers
