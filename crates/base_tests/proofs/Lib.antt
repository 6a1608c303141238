mod Prelude
pub mod Distinct
