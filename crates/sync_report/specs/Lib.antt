pub mod Laws
pub mod Placing
pub mod PrivateSteps
pub mod Syncing
pub mod Prelude
