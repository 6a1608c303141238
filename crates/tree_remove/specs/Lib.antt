pub mod Laws
pub mod PrivateDeeds
pub mod Removing
