mod Prelude
pub mod Matched
pub mod Parsed
pub mod Closing
pub mod ByCases
pub mod Selected
