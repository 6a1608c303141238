mod Prelude
pub mod Apart
pub mod Inside
pub mod Listed
pub mod Placed
pub mod Ready
pub mod Steps
pub mod Succeeds
