pub mod Ends
pub mod Lines
pub mod Sides
pub mod Statuses
pub mod Stops
pub mod Prelude
