use Rattle.shared_reads.proofs.Prelude.{◌≡◌, ℕ, ◌≤◌, ◌<◌, length, get_or, Vec, Global, Found, AreCut, held}
use Rattle.shared_reads.proofs.keeping.Kept.take.Given as goal

abbrev pub invariant-loop-k : goal.invariant-loop-k
invariant-loop-k g l = record {
  as_many : length l.self.lists.items ≡ length l.fn.self.lists.items;
  cut : AreCut l.fn.self l.self;
  whole : (k : ℕ) (d : Vec (Found g.row.O.Denot) Global) → l.k ≤ k → k < length l.fn.self.lists.items →
      get_or l.self.lists.items k d ≡ get_or l.fn.self.lists.items k d;
  held : (faults : g.row.O.Denot → ℕ) → held faults l.self ≤ held faults l.fn.self;
}
