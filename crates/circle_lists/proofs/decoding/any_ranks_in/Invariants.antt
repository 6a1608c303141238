use Rattle.circle_lists.proofs.Prelude.{◌≡◌, ◌≤◌, ◌<◌, ℕ, head_text}
use Rattle.circle_lists.proofs.decoding.any_ranks_in.Given as goal

-- none of the numbers so far is told
abbrev pub invariant-loop-ranks : goal.invariant-loop-ranks
invariant-loop-ranks l = (n : ℕ) → l.rank < n → n ≤ l.ranks → l.text ≡ head_text l.rank n → ⊥
