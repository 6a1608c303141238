-- A balance in counts. Our own.
use Rattle.std.specs.Prelude.{◌≡◌, ℕ, List, ◌++◌, map, count_by, nat_eq, ◌↔◌}
use Rattle.std.specs.List.{flat_map}
use Rattle.std.specs.Cmp.Lexicographic.{pointwise}
use Rattle.circle_run.specs.Balance.{Log, Balanced}

-- how often a string is in a list
abbrev pub times : List ℕ → List (List ℕ) → ℕ
times s strings = count_by (pointwise nat_eq s) strings

-- the strings of a log
abbrev pub handled_strings : Log → List (List ℕ)
handled_strings log = map (λ x. x.0) log

-- the strings pushed in a log
abbrev pub pushed_strings : Log → List (List ℕ)
pushed_strings log = flat_map (λ x. x.1) log

-- each string was handled or is left as often as it was a start or was pushed
pub record AsOften (log : Log) (left starts : List (List ℕ)) : Type 0 where
  pub often : (s : List ℕ) → times s (handled_strings log ++ left) ≡ times s (starts ++ pushed_strings log)

-- weights and counts say the same
abbrev pub BalanceIsAsOften : Type 0
BalanceIsAsOften = (log : Log) (left starts : List (List ℕ)) → Balanced log left starts ↔ AsOften log left starts
