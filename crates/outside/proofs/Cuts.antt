-- The first of the files that are out in spans.
use Rattle.outside.proofs.Prelude.{◌≡◌, ℕ, suc, not, ◌+◌, ◌<◌, Bool, true, false, cond, List, [], ◌∷◌, length, refl, ap, ◌∙◌, sym, arith, nat_eq, get_or}
use Rattle.outside.proofs.Prelude.{slice_get, Some, None, remove, position, position_or_len, pointwise, bytes_decides, nat_lt, false≢true, nat_tests}
use Rattle.outside.proofs.Prelude.{slice_get-get_or, Cut, cuts_at, without_cut}
use Rattle.std.proofs.Common.{is_some}

-- the file is the one at the path
abbrev pub is_of : List ℕ → Cut → Bool
is_of path cut = pointwise nat_eq cut.path path

-- the place of the first file at the path
abbrev pub first_index : List ℕ → List Cut → ℕ
first_index path out = position_or_len (is_of path) out

-- a file that has cuts is among those that are out
pub first_inside : (path : List ℕ) (out : List Cut) → is_some (cuts_at path out) ≡ true → first_index path out < length out
first_inside path [] e = absurd (false≢true e)
first_inside path (cut ∷ out) e =
    elim (is_of path cut) as
    (λ b. is_some (cond b (Some cut.cuts) (cuts_at path out)) ≡ true → cond (not b) (1 + first_index path out) 0 < length (cut ∷ out)) [
      | true ↦ λ _. omega arith
      | false ↦ λ h. let r = first_inside path out h in omega (arith, r)
    ] e

-- and so it is found
pub first_found : (path : List ℕ) (out : List Cut) → is_some (cuts_at path out) ≡ true → position (is_of path) out ≡ Some (first_index path out)
first_found path out e =
    ap (λ b. cond b (Some (first_index path out)) None) (passes (first_index path out) (length out) (first_inside path out e))
  where
    passes : (a b : ℕ) → a < b → nat_lt a b ≡ true
    passes a b l = grind (arith, nat_tests)

-- the place that is found is that one
pub is_first : (path : List ℕ) (out : List Cut) (k : ℕ) → is_some (cuts_at path out) ≡ true → position (is_of path) out ≡ Some k → k ≡ first_index path out
is_first path out k e at = let found = first_found path out e in cc

behind : (n : ℕ) → 1 + n ≡ suc n
behind n = omega arith

-- once it is removed, the others are left
pub first_removed : (path : List ℕ) (out : List Cut) → without_cut path out ≡ remove out (first_index path out)
first_removed path [] = refl
first_removed path (cut ∷ out) =
    elim (is_of path cut) as (λ b. cond b out (cut ∷ without_cut path out) ≡ remove (cut ∷ out) (cond (not b) (1 + first_index path out) 0)) [
      | true ↦ refl
      | false ↦ ap (λ r. cut ∷ r) (first_removed path out) ∙ ap (remove (cut ∷ out)) (sym (behind (first_index path out)))
    ]

-- it is the file at the path, with the cuts that are told
pub first_told : (path : List ℕ) (out : List Cut) (cut : Cut) → slice_get out (first_index path out) ≡ Some cut
    → (cut.path ≡ path) × (cuts_at path out ≡ Some cut.cuts)
first_told path [] cut at = absurd cc
first_told path (one ∷ out) cut at =
    elim (is_of path one) as
    (λ b. is_of path one ≡ b → slice_get (one ∷ out) (cond (not b) (1 + first_index path out) 0) ≡ Some cut
    → (cut.path ≡ path) × (cond b (Some one.cuts) (cuts_at path out) ≡ Some cut.cuts)) [
      | true ↦ λ e here.
          let is : one ≡ cut = cc in ((bytes_decides cut.path path).0 (ap (is_of path) (sym is) ∙ e), ap (λ (w : Cut). Some w.cuts) is)
      | false ↦ λ _ here. first_told path out cut (ap (slice_get (one ∷ out)) (sym (behind (first_index path out))) ∙ here)
    ] refl at

-- what is left of a list that is this one, and what is told of the file that was there
pub rest_there : (path : List ℕ) (held out : List Cut) (k : ℕ) → held ≡ out → k ≡ first_index path out → remove held k ≡ without_cut path out
rest_there path held out k same is = ap (λ (o : List Cut). remove o k) same ∙ ap (remove out) is ∙ sym (first_removed path out)

pub told_there : (path : List ℕ) (held out : List Cut) (k : ℕ) (cut : Cut) → held ≡ out → k ≡ first_index path out → cut ≡ get_or held k cut
    → is_some (cuts_at path out) ≡ true → (cut.path ≡ path) × (cuts_at path out ≡ Some cut.cuts)
told_there path held out k cut same is at e =
    let here : cut ≡ get_or out (first_index path out) cut = at ∙ ap (λ (o : List Cut). get_or o k cut) same ∙ ap (λ i. get_or out i cut) is in
    first_told path out cut (slice_get-get_or out (first_index path out) cut (first_inside path out e) ∙ ap (λ (c : Cut). Some c) (sym here))
