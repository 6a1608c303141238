use Rattle.tree_cmp.proofs.Prelude.{◌≡◌, ◌+◌, length, map, ◌==◌, slice_split, terms_reading}
use Rattle.tree_cmp.proofs.Parts.{onto}
use Rattle.tree_cmp.proofs.expressions.terms_in.Given as goal

abbrev pub invariant-loop-end : goal.invariant-loop-end
invariant-loop-end l = record {
  told : terms_reading 0 (slice_split (λ b. b == 44) l.text)
      ≡ onto (map (λ term. term.items) l.terms.items) (terms_reading l.at (slice_split (λ b. b == 44) l.rest));
  places : l.at + length l.rest ≡ length l.text;
}

abbrev pub decreases-loop-end : goal.decreases-loop-end
decreases-loop-end l = length l.rest
