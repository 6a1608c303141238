use Rattle.tree_walk.proofs.Prelude.{◌≡◌, ℕ, ◌<◌, Bool, true, false, List, [], length, sym, rules, tests, MatchBool, Vec, ◌==◌, vec_len, HoldsAt, AllWithin}
use Rattle.tree_walk.proofs.Prelude.{Global, false≢true, cases_from_all, YieldsList-from_slice, all_left}
use Rattle.tree_walk.proofs.Cuts.{nothing_left, some_left}
use Rattle.tree_walk.proofs.walking.is_nothing.Goals as goal

abbrev IsEmpty : Vec (List ℕ) Global → Type 0
IsEmpty list = (vec_len list == 0) ≡ true

abbrev HasSome : Vec (List ℕ) Global → Type 0
HasSome list = (vec_len list == 0) ≡ false

yes : (r : Bool) (xs : List (Vec (List ℕ) Global)) → MatchBool r (AllWithin IsEmpty xs 0 (length xs)) ((k : ℕ) × (k < length xs) × HoldsAt HasSome xs k) →
    r ≡ true → all_left xs ≡ []
yes true xs h e = nothing_left xs h
yes false xs h e = absurd (false≢true e)

no : (r : Bool) (xs : List (Vec (List ℕ) Global)) → MatchBool r (AllWithin IsEmpty xs 0 (length xs)) ((k : ℕ) × (k < length xs) × HoldsAt HasSome xs k) →
    r ≡ false → 0 < length (all_left xs)
no true xs h e = absurd (false≢true (sym e))
no false xs h e = some_left xs h.0 h.1 h.2

pub returns-clause-yes : goal.returns-clause-yes
returns-clause-yes c =
    yes c.all.result c.args.left.now
    (cases_from_all _ _ _ IsEmpty HasSome c.all.ensures.ran (YieldsList-from_slice c.args.left.now cc) (λ x q k. search (rules, tests))
    (λ x q k. search (rules, tests)))

pub returns-clause-no : goal.returns-clause-no
returns-clause-no c =
    no c.all.result c.args.left.now
    (cases_from_all _ _ _ IsEmpty HasSome c.all.ensures.ran (YieldsList-from_slice c.args.left.now cc) (λ x q k. search (rules, tests))
    (λ x q k. search (rules, tests)))
