mod Prelude
pub mod Paths
pub mod Names
pub mod Places
pub mod Encoded
pub mod Damage
pub mod Decoded
pub mod Unique
pub mod Saved
pub mod Told
