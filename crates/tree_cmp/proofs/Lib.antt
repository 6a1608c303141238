mod Prelude
pub mod Lists
pub mod Counts
pub mod Counted
pub mod Under
pub mod Taken
pub mod Linked
pub mod Feeding
pub mod Filling
pub mod Shown
pub mod Pieces
pub mod Sided
pub mod Placed
pub mod Parts
pub mod OneRow
pub mod Finding
pub mod Passing
pub mod Causes
