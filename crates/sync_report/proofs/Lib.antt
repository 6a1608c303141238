mod Prelude
pub mod Below
pub mod Chosen
pub mod Done
pub mod Equal
pub mod Lists
pub mod Noted
pub mod Placed
pub mod Ready
pub mod Steps
pub mod Succeeds
pub mod Told
pub mod Walked
