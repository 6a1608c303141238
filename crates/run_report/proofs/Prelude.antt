-- The names from elsewhere that the proofs of this crate cite, passed on from one place. Declares nothing.
pub use Rattle.std.proofs.Common.{List, [], ap, codes, inl, inr, subst, sym, ℕ, ◌++◌, ◌∙◌, ◌∷◌, ◌≡◌, ◌⊎◌}
pub use Rattle.std.proofs.lemmas.List.{append_assoc}
pub use Rattle.std.specs.Fmt.{decimal}
pub use Rattle.std.specs.Prelude.{Err, IfOk, Ok, OnErr, OnOk, Result}
pub use Rattle.run_report.specs.Ends.{GrewByLine}
pub use Rattle.run_report.specs.Lines.{memory_line, refusal_line}
pub use Rattle.run_report.specs.Sides.{Stream, stream_of}
pub use Rattle.run_report.specs.Stops.{ToldRefusal}
pub use Rattle.run_report.specs.declared.statuses.Status.{Status}
