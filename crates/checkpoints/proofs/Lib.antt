mod Prelude
pub mod Tops
pub mod Stepping
pub mod Clashing
pub mod Counting
pub mod Lowest
pub mod Paired
pub mod Numbers
pub mod Looked
pub mod Placed
pub mod Paths
pub mod Written
pub mod Read
pub mod Fine
mod Removed
mod Stopped
