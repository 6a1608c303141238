-- What is due, once it is known what is a directory.
use Rattle.tree_copy.proofs.Prelude.{◌≡◌, ℕ, ◌≤◌, Bool, true, false, ◌&&◌, ◌||◌, List, [], ◌∷◌, ◌++◌, ◌+◌, ◌<◌, length, map, take, get_or, Option, Some, refl}
use Rattle.tree_copy.proofs.Prelude.{ap, ◌∙◌, sym, subst, cond, arith, IfErr, MatchOption, nat_le, ◌==◌, All, list_all, nat_tests, map_more, All-head, All-tail}
use Rattle.tree_copy.proofs.Prelude.{All-more, Pair, PlaceError, IsDue, overlap, target_in, has_targets, pairs_in, placed}
use Rattle.std.proofs.Common.{Result, Ok, Err, IfOk}
use Rattle.std.specs.Prelude.{IfSome}
use Rattle.tree_copy.specs.declared.pairs.PlaceError.TheVariants as place
use Rattle.tree_copy.proofs.Overlaps.{target}

-- what is due for a list of pairs, for any kind of list
abbrev pub due_of : {V : Type 0} → Bool → Bool → V → Result V PlaceError
due_of overlaps some_dir pairs = cond overlaps (Err place.Overlap) (cond some_dir (Ok pairs) (Err place.NoDest))

pub targets_in : (in_dir : Bool) (dest : List ℕ) (sources : List (List ℕ)) → map target (pairs_in in_dir dest sources) ≡ map (target_in in_dir dest) sources
targets_in in_dir dest [] = refl
targets_in in_dir dest (s ∷ sources) = ap (λ ts. target_in in_dir dest s ∷ ts) (targets_in in_dir dest sources)

pub sources_in : (in_dir : Bool) (dest : List ℕ) (sources : List (List ℕ)) → map (λ pair. pair.source) (pairs_in in_dir dest sources) ≡ sources
sources_in in_dir dest [] = refl
sources_in in_dir dest (s ∷ sources) = ap (λ ss. s ∷ ss) (sources_in in_dir dest sources)

-- each source has a target
pub due_with : (in_dir over_dir : Bool) (dest : List ℕ) (sources : List (List ℕ)) (pairs : List Pair) → has_targets in_dir dest sources ≡ true →
    pairs ≡ pairs_in in_dir dest sources →
    placed in_dir over_dir dest sources ≡ due_of (overlap (sources ++ map target pairs)) (in_dir || over_dir) pairs
due_with in_dir over_dir dest sources pairs has e =
    (λ i. cond (overlap (cond (has i) (sources ++ map (target_in in_dir dest) sources) sources)) (Err place.Overlap)
    (cond (has i && (in_dir || over_dir)) (Ok (pairs_in in_dir dest sources)) (Err place.NoDest)))
    ∙ (λ i. cond (overlap (sources ++ sym (targets_in in_dir dest sources) i)) (Err place.Overlap)
    (cond (in_dir || over_dir) (Ok (pairs_in in_dir dest sources)) (Err place.NoDest)))
    ∙ ap (λ ps. due_of (overlap (sources ++ map target ps)) (in_dir || over_dir) ps) (sym e)

-- some have none
pub due_without : (in_dir over_dir : Bool) (dest : List ℕ) (sources : List (List ℕ)) → has_targets in_dir dest sources ≡ false →
    placed in_dir over_dir dest sources ≡ cond (overlap sources) (Err place.Overlap) (Err place.NoDest)
due_without in_dir over_dir dest sources has = λ i.
    cond (overlap (cond (has i) (sources ++ map (target_in in_dir dest) sources) sources)) (Err place.Overlap)
    (cond (has i && (in_dir || over_dir)) (Ok (pairs_in in_dir dest sources)) (Err place.NoDest))

pub told_by : {V : Type 0} (items : V → List Pair) (overlaps some_dir : Bool) (pairs : V) (due : Result (List Pair) PlaceError) (result : Result V PlaceError) →
    due ≡ due_of overlaps some_dir (items pairs) → result ≡ due_of overlaps some_dir pairs → IfOk result (λ ps. due ≡ Ok (items ps))
told_by items overlaps some_dir pairs due result e r =
    subst (λ q. IfOk q (λ ps. due ≡ Ok (items ps))) (sym r) (by overlaps some_dir e)
  where
    by : (overlaps some_dir : Bool) → due ≡ due_of overlaps some_dir (items pairs) → IfOk (due_of overlaps some_dir pairs) (λ ps. due ≡ Ok (items ps))
    by true some_dir e = tt
    by false true e = e
    by false false e = tt

pub why_by : {V : Type 0} (items : V → List Pair) (overlaps some_dir : Bool) (pairs : V) (due : Result (List Pair) PlaceError) (result : Result V PlaceError) →
    due ≡ due_of overlaps some_dir (items pairs) → result ≡ due_of overlaps some_dir pairs → IfErr result (IsDue due)
why_by items overlaps some_dir pairs due result e r =
    subst (λ q. IfErr q (IsDue due)) (sym r) (by overlaps some_dir e)
  where
    by : (overlaps some_dir : Bool) → due ≡ due_of overlaps some_dir (items pairs) → IfErr (due_of overlaps some_dir pairs) (IsDue due)
    by true some_dir e = e
    by false true e = tt
    by false false e = e

pub of_some : {V : Type 0} (P : V → Type 0) (found : Option V) (v : V) → found ≡ Some v → IfSome found P → P v
of_some P found v e h = subst (λ f. IfSome f P) e h

pub of_match : {V : Type 0} (N : Type 0) (P : V → Type 0) (found : Option V) (v : V) → found ≡ Some v → MatchOption found N P → P v
of_match N P found v e h = subst (λ f. MatchOption f N P) e h

-- what the pairs that are due are
pub record AreDue (in_dir over_dir : Bool) (dest : List ℕ) (sources : List (List ℕ)) (pairs : List Pair) : Type 0 where
  pub some_dir : (in_dir || over_dir) ≡ true
  pub are : pairs ≡ pairs_in in_dir dest sources
  pub apart : overlap (sources ++ map target pairs) ≡ false

pub are_due : (in_dir over_dir : Bool) (dest : List ℕ) (sources : List (List ℕ)) (pairs : List Pair) → placed in_dir over_dir dest sources ≡ Ok pairs →
    AreDue in_dir over_dir dest sources pairs
are_due in_dir over_dir dest sources pairs h =
    elim (has_targets in_dir dest sources) as (λ b. has_targets in_dir dest sources ≡ b → AreDue in_dir over_dir dest sources pairs) [
      | true ↦ λ has. with (due_with in_dir over_dir dest sources (pairs_in in_dir dest sources) has refl)
      | false ↦ λ has. absurd (without (overlap sources) (sym (due_without in_dir over_dir dest sources has) ∙ h))
    ] refl
  where
    without : (overlaps : Bool) → cond overlaps (Err place.Overlap) (Err place.NoDest) ≡ Ok pairs → ⊥
    without true e = cc
    without false e = cc

    by : (overlaps some_dir : Bool) → overlap (sources ++ map target (pairs_in in_dir dest sources)) ≡ overlaps → (in_dir || over_dir) ≡ some_dir →
        due_of overlaps some_dir (pairs_in in_dir dest sources) ≡ Ok pairs → AreDue in_dir over_dir dest sources pairs
    by true some_dir a d e = absurd (cc)
    by false false a d e = absurd (cc)
    by false true a d e =
        let are : pairs ≡ pairs_in in_dir dest sources = cc in
        record { some_dir = d; are = are; apart = ap (λ ps. overlap (sources ++ map target ps)) are ∙ a }

    with : placed in_dir over_dir dest sources
        ≡ due_of (overlap (sources ++ map target (pairs_in in_dir dest sources))) (in_dir || over_dir) (pairs_in in_dir dest sources) →
        AreDue in_dir over_dir dest sources pairs
    with e = by _ _ refl refl (sym e ∙ h)

pub sources_of : {V : Type 0} (items : V → List Pair) (in_dir over_dir : Bool) (dest : List ℕ) (sources : List (List ℕ)) (result : Result V PlaceError) →
    IfOk result (λ pairs. placed in_dir over_dir dest sources ≡ Ok (items pairs)) → IfOk result (λ pairs. map (λ pair. pair.source) (items pairs) ≡ sources)
sources_of items in_dir over_dir dest sources (Ok pairs) h =
    ap (map (λ (pair : Pair). pair.source)) (are_due in_dir over_dir dest sources (items pairs) h).are ∙ sources_in in_dir dest sources
sources_of items in_dir over_dir dest sources (Err e) h = tt

-- targets that are all short enough
short : (n : ℕ) → n ≤ 4095 → nat_le n 4095 ≡ true
short n h = grind (arith, nat_tests)

pub all_short : (f : List ℕ → List ℕ) (sources : List (List ℕ)) → All (λ source. length (f source) ≤ 4095) sources →
    list_all (λ source. nat_le (length (f source)) 4095) sources ≡ true
all_short f [] h = refl
all_short f (s ∷ sources) h =
    λ i. short (length (f s)) (All-head (λ source. length (f source) ≤ 4095) s sources h) i
    && all_short f sources (All-tail (λ source. length (f source) ≤ 4095) s sources h) i

-- one more source has its target
pub pairs_more : (in_dir : Bool) (dest : List ℕ) (sources : List (List ℕ)) (k : ℕ) (given source to : List ℕ) (before after : List Pair) →
    k < length sources → given ≡ get_or sources k given → source ≡ given → to ≡ target_in in_dir dest given →
    before ≡ pairs_in in_dir dest (take k sources) → after ≡ before ++ record { source = source; target = to } ∷ [] →
    after ≡ pairs_in in_dir dest (take (k + 1) sources)
pairs_more in_dir dest sources k given source to before after l at same is b e =
    let f : List ℕ → Pair = λ s. record { source = s; target = target_in in_dir dest s } in
    let one : record { source = source; target = to } ≡ f (get_or sources k given) = (λ i. record { source = same i; target = is i }) ∙ ap f at in
    e ∙ (λ i. b i ++ one i ∷ []) ∙ sym (map_more f sources k given l)

pub short_more : (in_dir : Bool) (dest : List ℕ) (sources : List (List ℕ)) (k : ℕ) (given : List ℕ) →
    k < length sources → given ≡ get_or sources k given → length (target_in in_dir dest given) ≤ 4095 →
    All (λ source. length (target_in in_dir dest source) ≤ 4095) (take k sources) →
    All (λ source. length (target_in in_dir dest source) ≤ 4095) (take (k + 1) sources)
short_more in_dir dest sources k given l at s h =
    All-more (λ source. length (target_in in_dir dest source) ≤ 4095) sources k given l h
    (subst (λ s. length (target_in in_dir dest s) ≤ 4095) at s)

-- so each has one
pub have_targets : (in_dir : Bool) (dest : List ℕ) (sources : List (List ℕ)) → (in_dir || length sources == 1) ≡ true →
    All (λ source. length (target_in in_dir dest source) ≤ 4095) sources → has_targets in_dir dest sources ≡ true
have_targets in_dir dest sources h s = λ i. h i && all_short (target_in in_dir dest) sources s i
