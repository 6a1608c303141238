-- How the fields of a list of pages, and of its heads, tell the entries: only invariants and clauses of private functions cite these
-- definitions.
pub mod Kept
pub mod Slim
