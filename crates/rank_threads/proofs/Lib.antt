mod Prelude
pub mod Firsts
