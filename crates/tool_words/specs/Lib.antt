pub mod Asked
pub mod Clashes
pub mod Limits
pub mod Parts
pub mod Refusals
pub mod Table
pub mod Value
pub mod Words
