use Rattle.tree_cmp.proofs.Prelude.{◌≡◌, ◌+◌, length, ◌==◌, slice_split, term_reading}
use Rattle.tree_cmp.proofs.Parts.{onto}
use Rattle.tree_cmp.proofs.expressions.term_at.Given as goal

abbrev pub invariant-loop-end : goal.invariant-loop-end
invariant-loop-end l = record {
  told : term_reading l.fn.at (slice_split (λ b. b == 64) l.text) ≡ onto l.conditions.items (term_reading l.at (slice_split (λ b. b == 64) l.rest));
  places : l.at + length l.rest ≡ l.fn.at + length l.text;
}

abbrev pub decreases-loop-end : goal.decreases-loop-end
decreases-loop-end l = length l.rest
