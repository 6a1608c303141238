pub mod Path
pub mod Order
pub mod Total
pub mod Escape
pub mod Graft
pub mod Written
