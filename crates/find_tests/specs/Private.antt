-- The answers of the crate's private functions: only their clauses cite them, and no public one rests on them.
pub mod Front
pub mod Brackets
