pub mod Stages
pub mod Laws
pub mod Private
pub mod Prelude
