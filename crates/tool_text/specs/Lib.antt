pub mod Lines
pub mod Notes
pub mod Runs
pub mod NoteOrder
pub mod Rows
pub mod Synced
pub mod Groups
pub mod PrivateDrafts
