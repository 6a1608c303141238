mod Prelude
pub mod Numbered
pub mod Placed
pub mod Filled
pub mod Valid
pub mod Lawful
