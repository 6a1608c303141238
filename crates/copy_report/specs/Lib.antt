pub mod Copying
pub mod Laws
pub mod Placing
pub mod PrivateSteps
pub mod Prelude
