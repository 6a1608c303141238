-- Definitions for the contracts of the crate's own steps alone. No clause of a public function rests on them, so no reader has to believe them.
pub mod Books
pub mod Steps
pub mod Services
pub mod Outcomes
pub mod Away
pub mod Pooled
pub mod Parting
