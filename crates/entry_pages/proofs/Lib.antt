mod Prelude
pub mod Inverse
pub mod Passed
pub mod Paged
pub mod Sought
pub mod Counted
pub mod Slimmed
pub mod Appended
