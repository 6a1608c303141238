-- What was handled and what is left are a cut of the recursive walk.
use Rattle.tree_walk.proofs.Prelude.{◌≡◌, ℕ, ◌+◌, ◌<◌, ◌≤◌, true, false, ◌||◌, List, [], ◌∷◌, ◌++◌, length, refl, ap, ◌∙◌, sym, subst, arith, cond}
use Rattle.tree_walk.proofs.Prelude.{length-append, zero, suc, Option, Some, None, inl, inr, AllByRecursion, AllWithin, HoldsAt, All, sum_by, get}
use Rattle.tree_walk.proofs.Prelude.{IsPermutation, Global, Vec, ◌==◌, vec_len, nat_tests, sum_by-cons, sum_by-IsPermutation, length_permutation}
use Rattle.tree_walk.proofs.Prelude.{All-from_recursion, recursion_from_All, Files, IsTree, all_weaker, Entry, handled, pushed, Balanced, all_left, Walked}
use Rattle.tree_walk.proofs.Prelude.{answer_in, entry_of, children_of, paths_of, Held, IsDone, log_of, entries_of, is_in, is_in_some, Apart, IsCut, IsCutFound}
use Rattle.tree_walk.proofs.Prelude.{IsTooMany, IfCut, log_by, found_in, max_entries, IsFound, nil_from_length, sum_by-map, all_join}
use Rattle.tree_walk.specs.declared.reports.Walked.TheVariants as walked
use Rattle.tree_walk.proofs.Lists.{all_map}
use Rattle.tree_walk.proofs.Inside.{at_or_under, is_in_is}
use Rattle.tree_walk.proofs.Covers.{covers, covers-itself, one, from_apart, to_apart, some_covers}
use Rattle.tree_walk.proofs.Once.{IsGathered, covered, as_often, each_here, list_within}
use Rattle.tree_walk.proofs.AnyOrder.{moved, to_entries}

abbrev pub kids : Files → Entry → List (List ℕ)
kids files e = children_of (answer_in e) files e.path

-- ---- the balance, whatever the order of the entries

pub handled_by : (files : Files) (weight : List ℕ → ℕ) (es : List Entry) → handled weight (log_by files es) ≡ sum_by (λ e. weight e.path) es
handled_by files weight es = sum_by-map (λ (x : List ℕ × List (List ℕ)). weight x.0) (λ (e : Entry). (e.path, kids files e)) es

pub pushed_by : (files : Files) (weight : List ℕ → ℕ) (es : List Entry) → pushed weight (log_by files es) ≡ sum_by (λ e. sum_by weight (kids files e)) es
pushed_by files weight es = sum_by-map (λ (x : List ℕ × List (List ℕ)). sum_by weight x.1) (λ (e : Entry). (e.path, kids files e)) es

pub rebalanced : (files : Files) (es list : List Entry) (left starts : List (List ℕ)) → IsPermutation es list → Balanced (log_by files es) left starts →
    Balanced (log_by files list) left starts
rebalanced files es list left starts p b = record {
  weighs = λ weight. omega (
    arith,
    b.weighs weight,
    handled_by files weight es,
    handled_by files weight list,
    pushed_by files weight es,
    pushed_by files weight list,
    sum_by-IsPermutation (λ (e : Entry). weight e.path) es list p,
    sum_by-IsPermutation (λ (e : Entry). sum_by weight (kids files e)) es list p,
  );
}

logs_same : (files : Files) (ds : List Held) → AllByRecursion (IsDone files) ds → log_of ds ≡ log_by files (entries_of ds)
logs_same files [] h = refl
logs_same files (d ∷ ds) h = λ i. (d.0.path, h.0.children i) ∷ logs_same files ds h.1 i

pub is_cut : (files : Files) (ds : List Held) (list : List Entry) (left starts : List (List ℕ)) → AllByRecursion (IsDone files) ds →
    IsGathered ds list left starts → IsCut files starts list left
is_cut files ds list left starts done h =
    let Own : Entry → Type 0 = λ e. e ≡ entry_of (answer_in e) (get files e.path) e.path in
    let own = to_entries Own ds (all_weaker (IsDone files) (λ d. Own d.0) (λ d g. g.entry) ds done) in
    record {
      own = All-from_recursion Own list (moved Own (entries_of ds) list h.moves own);
      balance = rebalanced files (entries_of ds) list left starts h.moves (subst (λ log. Balanced log left starts) (logs_same files ds done) h.balance);
    }

pub valid_done : (files : Files) (ds : List Held) (list : List Entry) → AllByRecursion (IsDone files) ds → IsPermutation (entries_of ds) list →
    0 < length list → IsTree files
valid_done files [] list done p some = absurd (omega (arith, length_permutation [] list p, some))
valid_done files (d ∷ ds) list done p some = done.0.valid

-- ---- nothing is done twice, or done and equal to or under a left string, or equal to or under two of them

abbrev pub Beside : List Entry → List (List ℕ) → Type 0
Beside done left = (x : List ℕ) → sum_by (λ e. one x e.path) done + sum_by (covers x) left ≤ 1

pub gathered_beside : (ds : List Held) (list : List Entry) (left starts : List (List ℕ)) → IsGathered ds list left starts → Beside list left
gathered_beside ds list left starts h x =
    omega (arith, covered x ds left starts h.pushes h.balance, from_apart starts h.apart x, as_often (λ e. one x e.path) ds list h.moves)

pub left_apart : (done : List Entry) (left : List (List ℕ)) → Beside done left → Apart left
left_apart done left b = to_apart left (λ x. omega (arith, b x))

none_covers : (x : List ℕ) (ps : List (List ℕ)) → sum_by (covers x) ps ≡ 0 → is_in_some ps x ≡ false
none_covers x [] h = refl
none_covers x (p ∷ ps) h =
    let parts = sum_by-cons (covers x) p ps in
    elim (at_or_under x p) as (λ b. at_or_under x p ≡ b → (is_in x p || is_in_some ps x) ≡ false) [
      | true ↦ λ t. let here : covers x p ≡ 1 = ap (λ b. cond b 1 0) t in absurd (omega (arith, h, parts, here))
      | false ↦ λ f. ap (λ b. b || is_in_some ps x) (is_in_is x p ∙ f) ∙ none_covers x ps (omega (arith, h, parts))
    ] refl

pub done_beside : (done : List Entry) (left : List (List ℕ)) → Beside done left → All (λ e. is_in_some left e.path ≡ false) done
done_beside done left b =
    let Counted : Entry → Type 0 = λ e. 1 ≤ sum_by (λ f. one e.path f.path) done in
    let Outside : Entry → Type 0 = λ e. is_in_some left e.path ≡ false in
    All-from_recursion Outside done (all_weaker Counted Outside (λ e n. none_covers e.path left (omega (arith, n, b e.path))) done (each_here done))

-- ---- each left string is a start or under one

each_covered : (ps : List (List ℕ)) → AllByRecursion (λ p. 1 ≤ sum_by (covers p) ps) ps
each_covered [] = tt
each_covered (p ∷ ps) = (
  omega (arith, sum_by-cons (covers p) p ps, covers-itself p),
  all_weaker (λ q. 1 ≤ sum_by (covers q) ps) (λ q. 1 ≤ sum_by (covers q) (p ∷ ps)) (λ q h. omega (arith, h, sum_by-cons (covers q) p ps)) ps (each_covered ps),
)

pub all_within : (ds : List Held) (list : List Entry) (left starts : List (List ℕ)) → IsGathered ds list left starts →
    All (λ path. is_in_some starts path ≡ true) (paths_of list ++ left)
all_within ds list left starts h =
    let Within : List ℕ → Type 0 = λ path. is_in_some starts path ≡ true in
    let of_left = all_weaker (λ q. 1 ≤ sum_by (covers q) left) Within
    (λ q n. some_covers q starts (omega (arith, n, covered q ds left starts h.pushes h.balance))) left (each_covered left) in
    All-from_recursion Within (paths_of list ++ left)
    (all_join Within (paths_of list) left (all_map Within (λ (e : Entry). e.path) list (list_within ds list left starts h)) of_left)

-- ---- whether any rank has a string left

is_none : (n : ℕ) → (n == 0) ≡ true → n ≡ 0
is_none n e = grind (arith, nat_tests)

is_some : (n : ℕ) → (n == 0) ≡ false → 0 < n
is_some n e = grind (arith, nat_tests)

pub nothing_left : (xs : List (Vec (List ℕ) Global)) → AllWithin (λ list. (vec_len list == 0) ≡ true) xs 0 (length xs) → all_left xs ≡ []
nothing_left xs h =
    each xs (recursion_from_All (λ (list : Vec (List ℕ) Global). (vec_len list == 0) ≡ true) xs (λ k d l. h k d (omega arith) l))
  where
    each : (xs : List (Vec (List ℕ) Global)) → AllByRecursion (λ list. (vec_len list == 0) ≡ true) xs → all_left xs ≡ []
    each [] h = refl
    each (x ∷ xs) h = λ i. nil_from_length x.items (sym x.ok.0 ∙ is_none (vec_len x) h.0) i ++ each xs h.1 i

pub some_left : (xs : List (Vec (List ℕ) Global)) (k : ℕ) → k < length xs → HoldsAt (λ list. (vec_len list == 0) ≡ false) xs k → 0 < length (all_left xs)
some_left [] k l h = absurd (omega (arith, l))
some_left (x ∷ xs) zero l h = omega (arith, length-append x.items (all_left xs), is_some (vec_len x) (h x), x.ok.0)
some_left (x ∷ xs) (suc k) l h = omega (arith, length-append x.items (all_left xs), some_left xs k (omega (arith, l)) (λ d. h d))

-- ---- what a walk gives is split

-- what holds of what was found and of what is left holds of the cut
pub of_cut : (Q : List Entry → Vec (Vec (List ℕ) Global) Global → Type 0) (w : Walked) (list found : List Entry) (left : Vec (Vec (List ℕ) Global) Global) →
    found_in w list ≡ found → IfCut w (λ cut. (cut.left ≡ left) × (0 < length (all_left left.items))) → Q found left →
    IfCut w (λ cut. Q cut.done cut.left)
of_cut Q walked.Whole list found left e h q = tt
of_cut Q (walked.Cut cut) list found left e h q = subst (λ v. Q cut.done v) (sym h.0) (subst (λ es. Q es left) (sym e) q)

-- ---- too much is found

-- of a whole walk or, with a stop, of one that may be cut
pub too_many : (stop : Option ℕ) (tree : Option Files) (starts : List (List ℕ)) (old new n : ℕ) (list : List Entry) (left : List (List ℕ)) →
    (stop ≡ None → IsFound tree starts old new list) → IsCutFound tree starts old new list left → n ≡ length list → max_entries < n
    → IsTooMany stop tree starts old new n
too_many None tree starts old new n list left found cut number above =
    inl (record { list = list; found = found refl; number = number; above = above })
too_many (Some k) tree starts old new n list left found cut number above =
    inr (refl, record { done = list; left = left; found = cut; number = number; above = above })
