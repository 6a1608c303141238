mod Prelude
pub mod OneLine
