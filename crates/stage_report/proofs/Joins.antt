-- Lists of several stages: what is joined can be written.
use Rattle.stage_report.proofs.Prelude.{◌≡◌, ℕ, ◌+◌, ◌≤◌, Bool, true, false, List, [], ◌∷◌, ◌++◌, length, zero, suc, get_or, cond, refl, ap, ◌∙◌, sym, subst}
use Rattle.stage_report.proofs.Prelude.{arith, eqb, ◌==◌, AllByRecursion, All, sum_by, IsSortedByKey, IsPermutation, is_lt, ordering_reverse, pointwise}
use Rattle.stage_report.proofs.Prelude.{bytes_decides, Less, false≢true, nat_tests, sum_by-cons, sum_by-append, IsPermutation-refl, All-permutation}
use Rattle.stage_report.proofs.Prelude.{sum_by-IsPermutation, All-append, All-nil, recursion_from_All, path_cmp, path_cmp_total, Entry, is_shaped, paths_of}
use Rattle.stage_report.proofs.Prelude.{IsJoined, is_in_some, one, rises, unequal, IsWritable, IsBeside}
use Rattle.std.specs.List.Sorted.{IsStrictlySortedBy}

behind : (x y : List ℕ) → path_cmp x y ≡ Less → is_lt (path_cmp y x) ≡ false
behind x y less = ap is_lt (path_cmp_total.antisymm y x ∙ ap ordering_reverse less)

-- of paths that strictly ascend none is less than the one before
adjacent : (e f : Entry) (es : List Entry) → AllByRecursion (λ y. path_cmp e.path y ≡ Less) (paths_of (f ∷ es)) →
    IsSortedByKey (λ e. e.path) path_cmp (f ∷ es) → IsSortedByKey (λ e. e.path) path_cmp (e ∷ f ∷ es)
adjacent e f es less later zero d g h = behind e.path f.path less.0
adjacent e f es less later (suc k) d g h =
    let place : suc k + 1 ≡ suc (k + 1) = omega arith in
    subst (λ n. is_lt (path_cmp (get_or (e ∷ f ∷ es) n d).path (get_or (f ∷ es) k d).path) ≡ false) (sym place)
    (later k d (omega arith) (omega (arith, h)))

by_key : (es : List Entry) → IsStrictlySortedBy path_cmp (paths_of es) → IsSortedByKey (λ e. e.path) path_cmp es
unfolding IsStrictlySortedBy
by_key [] s = λ k d g h. absurd (omega (arith, h))
by_key (e ∷ []) s = λ k d g h. absurd (omega (arith, h))
by_key (e ∷ f ∷ es) s = adjacent e f es s.0 (by_key (f ∷ es) s.1)

nothing : (es : List Entry) → length es ≡ 0 → es ≡ []
nothing [] none = refl
nothing (e ∷ es) none = absurd (omega (arith, none))

pub no_length : (es : List Entry) → (length es == 0) ≡ true → length es ≡ 0
no_length es h = grind (arith, nat_tests)

-- where nothing was done before, what is found is all
pub joined_alone : (done later : List Entry) → length done ≡ 0 → IsStrictlySortedBy path_cmp (paths_of later) → IsJoined done later later
joined_alone done later none ascend = record {
  all = subst (λ es. IsPermutation (es ++ later) later) (sym (nothing done none)) (IsPermutation-refl later);
  sorted = by_key later ascend;
}

-- ---- each path stands once

none_ahead : (x : List ℕ) (es : List Entry) → AllByRecursion (λ y. path_cmp x y ≡ Less) (paths_of es) → sum_by (λ e. one x e.path) es ≡ 0
none_ahead x [] h = refl
none_ahead x (e ∷ es) h =
    let here : one x e.path ≡ 0 = ap (λ b. cond b 1 0) (unequal x e.path h.0) in
    omega (arith, sum_by-cons (λ (f : Entry). one x f.path) e es, here, none_ahead x es h.1)

-- in a list whose paths ascend
once : (x : List ℕ) (es : List Entry) → IsStrictlySortedBy path_cmp (paths_of es) → sum_by (λ e. one x e.path) es ≤ 1
unfolding IsStrictlySortedBy
once x [] s = omega arith
once x (e ∷ es) s =
    elim (pointwise eqb x e.path) as (λ b. pointwise eqb x e.path ≡ b → sum_by (λ f. one x f.path) (e ∷ es) ≤ 1) [
      | true ↦ λ t.
          let same : x ≡ e.path = (bytes_decides x e.path).0 t in
          let none : sum_by (λ (f : Entry). one x f.path) es ≡ 0 =
          ap (λ y. sum_by (λ (f : Entry). one y f.path) es) same ∙ none_ahead e.path es s.0 in
          let here : one x e.path ≡ 1 = ap (λ b. cond b 1 0) t in
          omega (arith, sum_by-cons (λ (f : Entry). one x f.path) e es, none, here)
      | false ↦ λ t.
          let here : one x e.path ≡ 0 = ap (λ b. cond b 1 0) t in
          omega (arith, sum_by-cons (λ (f : Entry). one x f.path) e es, here, once x es s.1)
    ] refl

-- a path that answers a test otherwise than all the paths of a list does not stand there
no_other : (test : List ℕ → Bool) (answer : Bool) (x : List ℕ) (es : List Entry) → (test x ≡ answer → ⊥) →
    AllByRecursion (λ e. test e.path ≡ answer) es → sum_by (λ e. one x e.path) es ≡ 0
no_other test answer x [] other h = refl
no_other test answer x (e ∷ es) other h =
    elim (pointwise eqb x e.path) as (λ b. pointwise eqb x e.path ≡ b → sum_by (λ f. one x f.path) (e ∷ es) ≡ 0) [
      | true ↦ λ t. absurd (other (ap test ((bytes_decides x e.path).0 t) ∙ h.0))
      | false ↦ λ t.
          let here : one x e.path ≡ 0 = ap (λ b. cond b 1 0) t in
          omega (arith, sum_by-cons (λ (f : Entry). one x f.path) e es, here, no_other test answer x es other h.1)
    ] refl

-- of two lists that a test tells apart
once_in_both : (test : List ℕ → Bool) (x : List ℕ) (done later : List Entry) → IsStrictlySortedBy path_cmp (paths_of done) →
    IsStrictlySortedBy path_cmp (paths_of later) → AllByRecursion (λ e. test e.path ≡ false) done → AllByRecursion (λ e. test e.path ≡ true) later →
    sum_by (λ e. one x e.path) done + sum_by (λ e. one x e.path) later ≤ 1
once_in_both test x done later s t h g =
    elim (test x) as (λ b. test x ≡ b → sum_by (λ e. one x e.path) done + sum_by (λ e. one x e.path) later ≤ 1) [
      | true ↦ λ e. omega (arith, once x later t, no_other test false x done (λ f. false≢true (sym f ∙ e)) h)
      | false ↦ λ e. omega (arith, once x done s, no_other test true x later (λ f. false≢true (sym e ∙ f)) g)
    ] refl

-- a joined list can be written, since nothing in it stands twice
pub joined_writable : (done later list : List Entry) (starts : List (List ℕ)) → IsWritable done → IsWritable later → IsBeside done starts →
    All (λ e. is_in_some starts e.path ≡ true) later → IsJoined done later list → IsWritable list
joined_writable done later list starts old new beside within joined = record {
  ascend = rises list joined.sorted
      (λ x. omega (
        arith,
        sum_by-IsPermutation (λ (e : Entry). one x e.path) (done ++ later) list joined.all,
        sum_by-append (λ (e : Entry). one x e.path) done later,
        once_in_both (is_in_some starts) x done later old.ascend new.ascend
            (recursion_from_All (λ (e : Entry). is_in_some starts e.path ≡ false) done beside)
            (recursion_from_All (λ (e : Entry). is_in_some starts e.path ≡ true) later within),
      ));
  shaped = All-permutation (λ (e : Entry). is_shaped e ≡ true) (done ++ later) list joined.all
      (All-append (λ (e : Entry). is_shaped e ≡ true) done later old.shaped new.shaped);
}

-- ---- a list that was just made

pub no_entries_writable : IsWritable []
unfolding IsStrictlySortedBy
no_entries_writable = record { ascend = tt; shaped = All-nil (λ (e : Entry). is_shaped e ≡ true) }

pub no_entries_beside : (starts : List (List ℕ)) → IsBeside [] starts
no_entries_beside starts = All-nil (λ (e : Entry). is_in_some starts e.path ≡ false)
