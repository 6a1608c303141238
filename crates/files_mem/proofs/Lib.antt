mod Prelude
pub mod Between
pub mod Found
pub mod Kept
pub mod Listed
pub mod Nul
pub mod Parent
pub mod Strip
pub mod Treed
pub mod Copied
pub mod Laying
pub mod Lending
pub mod Parted
pub mod Acting
mod Spanning
mod Cuts
mod CutOut
