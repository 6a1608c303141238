mod Prelude
pub mod Ranges
pub mod Trees
pub mod Rows
pub mod Rules
pub mod Seats
pub mod Begins
pub mod Gathers
pub mod WordSteps
pub mod ReadLemmas
pub mod SeatSteps
pub mod GatherLemmas
pub mod StartLemmas
pub mod MomentLemmas
