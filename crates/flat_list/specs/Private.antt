-- The answers of the crate's private functions: only their clauses cite these definitions, and no public clause does.
pub mod Reading
pub mod Left
pub mod Cut
