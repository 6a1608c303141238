pub mod Stored
pub mod Planned
pub mod Memory
pub mod Steady
pub mod PrivateHeld
pub mod Spanned
pub mod Blinded
