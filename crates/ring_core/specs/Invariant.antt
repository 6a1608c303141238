-- The token invariant of EWD840 (Dijkstra, Feijen, van Gasteren), over which ranks are active and which are black.
-- There a machine is active while it works; here a rank is active also while strings lie in its mailbox, which is our own addition.
use Rattle.std.specs.Prelude.{◌≡◌, ℕ, ◌<◌, ◌≤◌, ◌⊎◌}
use Rattle.ring_core.specs.declared.states.Colour.TheVariants.{Black}
use Rattle.ring_core.specs.declared.states.Token.{Token}
use Rattle.ring_core.specs.declared.states.Token.TheVariants.{At, Over}

-- nobody is active
abbrev pub Quiet : (ℕ → Type 0) → Type 0
Quiet active = (r : ℕ) → ¬ active r

-- with the token at p, no rank above p is active, or some rank at or below p is black, or the token is black; when all is over, nobody is active
abbrev pub TokenInvariant : (ℕ → Type 0) → (ℕ → Type 0) → Token → Type 0
TokenInvariant active black (At p colour) =
    ((r : ℕ) → p < r → ¬ active r)
    ⊎ (((r : ℕ) × (r ≤ p) × black r) ⊎ (colour ≡ Black))
TokenInvariant active black Over = Quiet active
