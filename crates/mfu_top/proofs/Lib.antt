mod Prelude
pub mod Ended
pub mod Succeeds
pub mod Still
