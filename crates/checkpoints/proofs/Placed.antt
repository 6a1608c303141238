-- What the lowest number of a misplaced left string tells.
use Rattle.checkpoints.proofs.Prelude.{◌≡◌, ℕ, ◌+◌, ◌<◌, true, ◌||◌, List, [], ◌∷◌, ◌++◌, length, refl, ap, ◌∙◌, sym, subst, arith, cond, Bool, Option, Some}
use Rattle.checkpoints.proofs.Prelude.{None, append_assoc, nat_lt, list_any, count_by, enumerate_from, flat_map, IsPermutation, length-append, flat_map-append}
use Rattle.checkpoints.proofs.Prelude.{length-enumerate_from, get_or-enumerate_from, All-permutation, IsPermutation-sym, IsPermutation-map}
use Rattle.checkpoints.proofs.Prelude.{Contains-permutation, sum_by-IsPermutation, Entry, is_in, clashes, is_misplaced, ArePlaced, IsFirstMisplaced, Numbered}
use Rattle.checkpoints.proofs.Prelude.{paths_in, IsUpTo, IsLowest, IsPlace}
use Rattle.checkpoints.proofs.Lowest.{none_passes, before_passes, this_passes}
use Rattle.checkpoints.proofs.Numbers.{flat_of}

paths_again : (n : ℕ) (flat : List (List ℕ)) → paths_in (enumerate_from n flat) ≡ flat
paths_again n [] = refl
paths_again n (p ∷ flat) = ap (λ ps. p ∷ ps) (paths_again (n + 1) flat)

-- left strings in any order misplace the same
pub same_test : (done : List Entry) (flat : List (List ℕ)) (lefts : Numbered) → IsPermutation (enumerate_from 0 flat) lefts →
    is_misplaced done (paths_in lefts) ≡ is_misplaced done flat
same_test done flat lefts p = λ i. λ x. list_any (clashes x) done || nat_lt 1 (count x i)
  where
    count : (x : List ℕ) → count_by (is_in x) (paths_in lefts) ≡ count_by (is_in x) flat
    count x =
        sum_by-IsPermutation (λ q. cond (is_in x q) 1 0) (paths_in (enumerate_from 0 flat)) (paths_in lefts)
        (IsPermutation-map (λ (l : ℕ × List ℕ). l.1) (enumerate_from 0 flat) lefts p)
        ∙ ap (count_by (is_in x)) (paths_again 0 flat)

-- the lowest number tells the same of the left strings in their own order
pub own_order : (done : List Entry) (flat : List (List ℕ)) (lefts : Numbered) (lowest : Option ℕ) → IsPermutation (enumerate_from 0 flat) lefts →
    IsLowest (is_misplaced done (paths_in lefts)) lefts lowest → IsLowest (is_misplaced done flat) (enumerate_from 0 flat) lowest
own_order done flat lefts lowest p low = back lowest (subst (λ (t : List ℕ → Bool). IsLowest t lefts lowest) (same_test done flat lefts p) low)
  where
    back : (lowest : Option ℕ) → IsLowest (is_misplaced done flat) lefts lowest → IsLowest (is_misplaced done flat) (enumerate_from 0 flat) lowest
    back None low = record {
      among = tt;
      under = All-permutation (λ l. is_misplaced done flat l.1 ≡ true → IsUpTo None l.0) lefts (enumerate_from 0 flat)
          (IsPermutation-sym (enumerate_from 0 flat) lefts p) low.under;
    }
    back (Some n) low = record {
      among = (
        low.among.0,
        Contains-permutation lefts (enumerate_from 0 flat) (n, low.among.0) (IsPermutation-sym (enumerate_from 0 flat) lefts p) low.among.1,
        low.among.2,
      );
      under = All-permutation (λ l. is_misplaced done flat l.1 ≡ true → IsUpTo (Some n) l.0) lefts (enumerate_from 0 flat)
          (IsPermutation-sym (enumerate_from 0 flat) lefts p) low.under;
    }

pub all_placed : (done : List Entry) (flat : List (List ℕ)) → IsLowest (is_misplaced done flat) (enumerate_from 0 flat) None → ArePlaced done flat
all_placed done flat low = none_passes (is_misplaced done flat) flat low.under

-- the number is one of a left string
pub number_inside : (done : List Entry) (flat : List (List ℕ)) (n : ℕ) → IsLowest (is_misplaced done flat) (enumerate_from 0 flat) (Some n) → n < length flat
number_inside done flat n low =
    let c = low.among.1 in
    let inside : c.0 < length flat = omega (arith, c.1, length-enumerate_from 0 flat) in
    let at = get_or-enumerate_from 0 flat c.0 (n, low.among.0) inside in
    let number : n ≡ 0 + c.0 = ap (λ (l : ℕ × List ℕ). l.0) (sym c.2 ∙ at) in
    omega (arith, number, inside)

flat_at : (earlier : List (List (List ℕ))) (before : List (List ℕ)) (path : List ℕ) (behind : List (List ℕ)) (later : List (List (List ℕ))) →
    flat_of (earlier ++ (before ++ path ∷ behind) ∷ later) ≡ (flat_of earlier ++ before) ++ path ∷ (behind ++ flat_of later)
flat_at earlier before path behind later =
    flat_map-append (λ l. l) earlier ((before ++ path ∷ behind) ∷ later)
    ∙ ap (λ (r : List (List ℕ)). flat_of earlier ++ r) (append_assoc before (path ∷ behind) (flat_of later))
    ∙ sym (append_assoc (flat_of earlier) before (path ∷ (behind ++ flat_of later)))

pub first_found : (done : List Entry) (lists : List (List (List ℕ))) (n rank place : ℕ) → IsPlace lists n rank place →
    IsLowest (is_misplaced done (flat_map (λ l. l) lists)) (enumerate_from 0 (flat_map (λ l. l) lists)) (Some n) → IsFirstMisplaced done lists rank place
first_found done lists n rank place p low =
    let test = is_misplaced done (flat_of lists) in
    let before = flat_of p.earlier ++ p.before in
    let rest = p.behind ++ flat_of p.later in
    let is = ap flat_of p.are ∙ flat_at p.earlier p.before p.path p.behind p.later in
    let number : n ≡ length before = p.number_is ∙ sym (length-append (flat_of p.earlier) p.before) in
    let here = subst (λ (m : ℕ). IsLowest test (enumerate_from 0 (before ++ p.path ∷ rest)) (Some m)) number
    (subst (λ (flat : List (List ℕ)). IsLowest test (enumerate_from 0 flat) (Some n)) is low) in
    record {
      earlier = p.earlier;
      before = p.before;
      path = p.path;
      behind = p.behind;
      later = p.later;
      are = p.are;
      at = (p.rank_is, p.place_is);
      misplaced = this_passes test before p.path rest here.among;
      first = before_passes test before (p.path ∷ rest) here.under;
    }
