mod Prelude
pub mod Joins
pub mod Beside
pub mod Begun
pub mod Cuts
pub mod Printing
pub mod Placed
pub mod Lengths
pub mod Fine
pub mod Succeeds
pub mod Walked
pub mod Leaves
pub mod Staged
pub mod Stopped
