-- A cursor that passes an entry takes a turn of a loop over its list.
use Rattle.flat_list.proofs.Prelude.{◌≡◌, ℕ, ◌+◌, ◌-◌, ◌<◌, ◌≤◌, Bool, true, false, List, length, refl, ap, sym, subst, ◌∙◌, arith, slice_get, nat_lt}
use Rattle.flat_list.proofs.Prelude.{if◌then◌else◌, nat_tests, get_or_from_slice_get, slice_get_within, Entry}
use Rattle.std.specs.Prelude.{Some}
use Rattle.flat_list.proofs.Dealt.{Turn}

-- a cursor over a list passed an entry
pub record Passes (xs : List Entry) (old new : List Entry × ℕ) (more : Bool) (e : Entry) : Type 0 where
  pub of_list : old.0 ≡ xs
  pub some : more ≡ true
  pub passed : new ≡ (old.0, if more then old.1 + 1 else old.1)
  pub at : slice_get new.0 (new.1 - 1) ≡ Some e

-- a loop that reads the cursor up to its end
pub passes : (xs : List Entry) (old new : List Entry × ℕ) (more : Bool) (e : Entry) → old.0 ≡ xs → more ≡ true
    → new ≡ (old.0, if more then old.1 + 1 else old.1) → slice_get new.0 (new.1 - 1) ≡ Some e → Passes xs old new more e
passes xs old new more e is some by at = record { of_list = is; some = some; passed = by; at = at }

pub next_at : {xs : List Entry} {old new : List Entry × ℕ} {more : Bool} {e : Entry} → Passes xs old new more e → new ≡ (xs, old.1 + 1)
next_at {xs} {old} {new} {more} {e} p =
    p.passed ∙ ap (λ (m : Bool). (old.0, if m then old.1 + 1 else old.1)) p.some ∙ ap (λ (l : List Entry). (l, old.1 + 1)) p.of_list

pub turn_at : {xs : List Entry} {old new : List Entry × ℕ} {more : Bool} {e : Entry} (n : ℕ) → old.1 ≡ n → Passes xs old new more e → Turn xs n e
turn_at {xs} {old} {new} {more} {e} n is p =
    let one : old.1 + 1 - 1 ≡ n = omega (arith, is) in
    let here : slice_get xs (old.1 + 1 - 1) ≡ Some e = subst (λ (v : List Entry × ℕ). slice_get v.0 (v.1 - 1) ≡ Some e) (next_at p) p.at in
    let there : slice_get xs n ≡ Some e = ap (slice_get xs) (sym one) ∙ here in
    record { within = slice_get_within xs n e there; item = sym (get_or_from_slice_get xs n e e there) }

-- where the cursor stands then
pub of_list : {xs : List Entry} {old new : List Entry × ℕ} {more : Bool} {e : Entry} → Passes xs old new more e → new.0 ≡ xs
of_list p = ap (λ (v : List Entry × ℕ). v.0) (next_at p)

pub one_on : {xs : List Entry} {old new : List Entry × ℕ} {more : Bool} {e : Entry} → Passes xs old new more e → old.1 + 1 ≡ new.1
one_on p = sym (ap (λ (v : List Entry × ℕ). v.1) (next_at p))

pub inside : {xs : List Entry} {old new : List Entry × ℕ} {more : Bool} {e : Entry} → Passes xs old new more e → new.1 ≤ length xs
inside {old = old} p = omega (arith, one_on p, (turn_at old.1 refl p).within)

-- there is one more before the end, and none behind it
pub more_at : (xs : List Entry) (n : ℕ) (old : List Entry × ℕ) (more : Bool) → old ≡ (xs, n) → n < length xs →
    more ≡ nat_lt old.1 (length old.0) → more ≡ true
more_at xs n old more is lt answer =
    let yes : nat_lt n (length xs) ≡ true = grind (arith, nat_tests, lt) in
    answer ∙ ap (λ (v : List Entry × ℕ). nat_lt v.1 (length v.0)) is ∙ yes

-- a loop that counts beside the cursor
pub passes_at : (xs : List Entry) (n : ℕ) (old new : List Entry × ℕ) (more : Bool) (e : Entry) → old ≡ (xs, n) → n < length xs
    → more ≡ nat_lt old.1 (length old.0) → new ≡ (old.0, if more then old.1 + 1 else old.1) → slice_get new.0 (new.1 - 1) ≡ Some e
    → Passes xs old new more e
passes_at xs n old new more e is lt answer by at =
    passes xs old new more e (ap (λ (v : List Entry × ℕ). v.0) is) (more_at xs n old more is lt answer) by at

pub no_more : (xs : List Entry) (old : List Entry × ℕ) (more : Bool) → old.0 ≡ xs → more ≡ nat_lt old.1 (length old.0) → more ≡ false →
    length xs ≤ old.1
no_more xs old more is answer none =
    let no : nat_lt old.1 (length xs) ≡ false = ap (λ (l : List Entry). nat_lt old.1 (length l)) (sym is) ∙ sym answer ∙ none in
    grind (arith, nat_tests, no)

pub step_more : (old new : List Entry × ℕ) (more : Bool) → new ≡ (old.0, if more then old.1 + 1 else old.1) → more ≡ true → new.1 ≡ old.1 + 1
step_more old new more is so = ap (λ (v : List Entry × ℕ). v.1) is ∙ ap (λ (m : Bool). if m then old.1 + 1 else old.1) so
