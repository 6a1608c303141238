mod Prelude
pub mod Spanning
