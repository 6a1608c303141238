pub mod Placing
pub mod Passing
pub mod Lefts
pub mod Kept
pub mod Stopping
pub mod Laws
pub mod PrivateRemoval
pub mod Prelude
