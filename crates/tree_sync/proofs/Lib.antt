mod Prelude
mod After
mod Alike
mod Apart
pub mod Both
mod Contents
mod Cursor
mod Equal
mod Fits
mod Kept
mod Lawful
mod Members
mod Named
mod Passed
mod Placed
mod Planned
mod Sided
mod Steps
