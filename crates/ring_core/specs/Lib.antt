pub mod World
pub mod Step
pub mod Invariant
pub mod Picture
pub mod Run
pub mod Text
pub mod Private
