mod Prelude
pub mod WholeLines
pub mod Words
pub mod Numbers
pub mod Digits
pub mod Escapes
pub mod Paths
pub mod Ends
pub mod Lines
