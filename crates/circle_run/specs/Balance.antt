-- Nothing is lost or added: the strings of the logs and those left are the starts and the strings pushed. The job, which handles
-- strings and pushes more, is from LaFon, Misra and Bringhurst, On Distributed File Tree Walk of Parallel File Systems (SC 2012); its log
-- and the balance are our own.
use Rattle.std.specs.Prelude.{◌≡◌, ℕ, ◌+◌, List, sum_by}

-- strings handled, each with the strings pushed for it
abbrev pub Log : Type 0
Log = List (List ℕ × List (List ℕ))

-- the weight of the strings of a log together
abbrev pub handled : (List ℕ → ℕ) → Log → ℕ
handled weight log = sum_by (λ x. weight x.0) log

-- the weight of the strings pushed in a log together
abbrev pub pushed : (List ℕ → ℕ) → Log → ℕ
pushed weight log = sum_by (λ x. sum_by weight x.1) log

-- each string was handled or is left as often as it was a start or was pushed: whatever a string weighs, those handled and left weigh as
-- much as the starts and those pushed
pub record Balanced (log : Log) (left starts : List (List ℕ)) : Type 0 where
  pub weighs : (weight : List ℕ → ℕ) → handled weight log + sum_by weight left ≡ sum_by weight starts + pushed weight log
