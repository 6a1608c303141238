-- Paths of sources are no targets, and each has a target of its own.
use Rattle.tree_copy.proofs.Prelude.{◌≡◌, ℕ, zero, suc, Bool, true, false, List, [], ◌∷◌, map, Some, None, refl, ◌∙◌, sym, subst, nat_eq, slice_get, is_some}
use Rattle.tree_copy.proofs.Prelude.{false≢true, or_left, or_right, or_from, All-filter, recursion_from_All, AllByRecursion, list_any, pointwise, bytes_decides}
use Rattle.tree_copy.proofs.Prelude.{is_within, refusal, Entry, ends_of, target_of, treated, TargetsAreApart, is_in_source, IsPair, overlap, Pair, same_some}
use Rattle.tree_copy.proofs.Apart.{across}
use Rattle.tree_copy.proofs.Ends.{Fine, all_at, goes, in_top, meets, met, one_over, one_path}

abbrev sources_of : List Pair → List (List ℕ)
sources_of pairs = map (λ pair. pair.source) pairs

abbrev targets_in : List Pair → List (List ℕ)
targets_in pairs = map (λ pair. pair.target) pairs

-- a source of which this is so
any_source : (f : List ℕ → Bool) (pairs : List Pair) (k : ℕ) (p : Pair) → slice_get pairs k ≡ Some p → f p.source ≡ true → list_any f (sources_of pairs) ≡ true
any_source f [] zero p at h = cc
any_source f [] (suc k) p at h = cc
any_source f (q ∷ pairs) zero p at h = or_left (f q.source) (list_any f (sources_of pairs)) (subst (λ (r : Pair). f r.source ≡ true) (sym (same_some q p at)) h)
any_source f (q ∷ pairs) (suc k) p at h = or_right (f q.source) (list_any f (sources_of pairs)) (any_source f pairs k p at h)

-- no source meets a target
never_meet : (pairs : List Pair) → overlap (ends_of pairs) ≡ false → (j k : ℕ) (p q : Pair) → slice_get pairs j ≡ Some p → slice_get pairs k ≡ Some q →
    meets p.source q.target ≡ true → ⊥
never_meet pairs off j k p q at there m =
    false≢true (sym (across (sources_of pairs) (targets_in pairs) off)
    ∙ any_source (λ x. list_any (meets x) (targets_in pairs)) pairs j p at (met (λ r. r.target) p.source pairs k q there m))

module _ (pairs : List Pair) (f : Fine pairs) (q : List ℕ) (there : is_in_source pairs q ≡ true) where
  -- it is not the target of such a path
  not_this : (x : List ℕ) → refusal x ≡ None → is_in_source pairs x ≡ true → pointwise nat_eq q (target_of pairs x) ≡ false
  not_this x v s = elim (pointwise nat_eq q (target_of pairs x)) as (λ b. pointwise nat_eq q (target_of pairs x) ≡ b → b ≡ false) [
    | true ↦ λ e.
        let own = goes pairs q there in
        let other = goes pairs x s in
        let same : target_of pairs x ≡ q = sym ((bytes_decides q (target_of pairs x)).0 e) in
        let top : is_within q other.pair.target ≡ true = subst (λ t. is_within t other.pair.target ≡ true) same (in_top pairs f x other v) in
        let meet = one_over own.pair.source other.pair.target q (all_at IsPair pairs f.valid own.place own.pair own.at).source
        (all_at IsPair pairs f.valid other.place other.pair other.at).target own.within top in
        absurd (never_meet pairs f.apart own.place other.place own.pair other.pair own.at other.at meet)
    | false ↦ λ _. refl
  ] refl

  none_of : (es : List Entry) → AllByRecursion (λ e. refusal e.path ≡ None) es → AllByRecursion (λ e. is_in_source pairs e.path ≡ true) es →
      list_any (pointwise nat_eq q) (map (λ e. target_of pairs e.path) es) ≡ false
  none_of [] v s = refl
  none_of (e ∷ es) v s =
      or_from (pointwise nat_eq q (target_of pairs e.path)) (list_any (pointwise nat_eq q) (map (λ (e : Entry). target_of pairs e.path) es))
      (not_this e.path v.0 s.0) (none_of es v.1 s.1)

pub targets_are_apart : TargetsAreApart
targets_are_apart = record {
  off_sources = λ list pairs path can valid paths there.
      let Valid : Entry → Type 0 = λ e. refusal e.path ≡ None in
      let Sourced : Entry → Type 0 = λ e. is_in_source pairs e.path ≡ true in
      none_of pairs (record { apart = can.apart; valid = valid }) path there (treated list)
      (recursion_from_All Valid (treated list) (All-filter (λ (e : Entry). is_some e.stat) Valid list paths))
      (recursion_from_All Sourced (treated list) (All-filter (λ (e : Entry). is_some e.stat) Sourced list can.in_source));
  one_each = λ pairs path other off valid v w s t same.
      one_path pairs (record { apart = off; valid = valid }) path other (goes pairs path s) (goes pairs other t) v w same;
}
