pub mod Signs
pub mod Glob
pub mod Matching
pub mod Bounds
pub mod Tests
pub mod Cases
pub mod Private
