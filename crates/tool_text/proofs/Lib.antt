mod Prelude
pub mod Drafted
pub mod Noted
pub mod Ascending
pub mod NotesCompared
pub mod NotesOrdered
pub mod Between
pub mod PutBehind
