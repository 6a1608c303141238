pub mod Comparing
pub mod Laws
pub mod Outputs
pub mod PrivatePicks
pub mod PrivateSteps
pub mod Prelude
