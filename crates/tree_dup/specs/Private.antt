-- Definitions that only the contracts of this crate's own functions cite.
pub mod Dealing
pub mod Hashing
pub mod Piles
pub mod Running
pub mod Sifting
pub mod Sizes
