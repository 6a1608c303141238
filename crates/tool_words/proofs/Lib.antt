mod Prelude
pub mod Bounds
pub mod Dashes
pub mod Groups
pub mod Numbers
pub mod SettingsFit
pub mod Slashes
pub mod Steps
