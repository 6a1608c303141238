mod Prelude
pub mod Chosen
pub mod Done
pub mod Fine
pub mod Found
pub mod Nothing
pub mod Saved
pub mod Sided
pub mod Told
