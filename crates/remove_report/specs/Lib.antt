pub mod Choosing
pub mod Laws
pub mod PrivateActs
pub mod Removing
pub mod Prelude
