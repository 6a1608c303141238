-- Whatever handled the paths, and in which order: the entries, put in path order, are the recursive walk.
use Rattle.tree_walk.proofs.Prelude.{◌≡◌, ℕ, ◌<◌, List, [], ◌∷◌, map, length, refl, ap, ◌∙◌, sym, arith, cond, AllByRecursion, flat_map, get, IsPermutation}
use Rattle.tree_walk.proofs.Prelude.{Less, nat_list_eq_equiv, sum_by-IsPermutation, IsPermutation-sym, All-permutation, recursion_from_All, All-from_recursion}
use Rattle.tree_walk.proofs.Prelude.{path_cmp, Files, IsTree, Entry, Balanced, Answers, answer_in, answers_in, entry_of, walk, paths_of, Held, IsDone, log_of}
use Rattle.tree_walk.proofs.Prelude.{entries_of, sum_by-ones, sum_by-map}
use Rattle.std.specs.List.Sorted.{IsStrictlySortedBy}
use Rattle.tree_walk.proofs.Lined.{Lined}
use Rattle.tree_walk.proofs.Once.{IsGathered, list_rises, as_often}
use Rattle.tree_walk.proofs.Covers.{covers, lined, from_apart}
use Rattle.tree_walk.proofs.Often.{often}
use Rattle.tree_walk.proofs.Lawful.{walks_ascend, walks_own, IsOwn}
use Rattle.tree_walk.proofs.Same.{same_paths, unequal}

-- ---- the failed answers that a list with each path once tells

abbrev pub Tells : List Entry → Answers → Type 0
Tells entries a = AllByRecursion (λ e. a e.path ≡ answer_in e) entries

later : (e : Entry) (es fs : List Entry) → AllByRecursion (λ q. path_cmp e.path q ≡ Less) (paths_of fs) →
    AllByRecursion (λ f. answers_in es f.path ≡ answer_in f) fs → AllByRecursion (λ f. answers_in (e ∷ es) f.path ≡ answer_in f) fs
later e es [] l h = tt
later e es (f ∷ fs) l h = (ap (λ b. cond b (answer_in e) (answers_in es f.path)) (unequal e.path f.path l.0) ∙ h.0, later e es fs l.1 h.1)

pub tells_itself : (es : List Entry) → IsStrictlySortedBy path_cmp (paths_of es) → Tells es (answers_in es)
unfolding IsStrictlySortedBy
tells_itself [] s = tt
tells_itself (e ∷ es) s =
    (ap (λ b. cond b (answer_in e) (answers_in es e.path)) (nat_list_eq_equiv.refl e.path), later e es es s.0 (tells_itself es s.1))

-- ---- facts of the entries, in any order

of_entries : (P : Entry → Type 0) (ds : List Held) → AllByRecursion P (entries_of ds) → AllByRecursion (λ d. P d.0) ds
of_entries P [] h = tt
of_entries P (d ∷ ds) h = (h.0, of_entries P ds h.1)

pub to_entries : (P : Entry → Type 0) (ds : List Held) → AllByRecursion (λ d. P d.0) ds → AllByRecursion P (entries_of ds)
to_entries P [] h = tt
to_entries P (d ∷ ds) h = (h.0, to_entries P ds h.1)

pub moved : {X : Type 0} (P : X → Type 0) (xs ys : List X) → IsPermutation xs ys → AllByRecursion P xs → AllByRecursion P ys
moved P xs ys p h = recursion_from_All P ys (All-permutation P xs ys p (All-from_recursion P xs h))

-- the list tells the answer of each entry
pub tells_each : (ds : List Held) (list : List Entry) → IsPermutation (entries_of ds) list → IsStrictlySortedBy path_cmp (paths_of list) →
    AllByRecursion (λ d. answers_in list d.0.path ≡ answer_in d.0) ds
tells_each ds list p rise =
    let P : Entry → Type 0 = λ e. answers_in list e.path ≡ answer_in e in
    of_entries P ds (moved P list (entries_of ds) (IsPermutation-sym (entries_of ds) list p) (tells_itself list rise))

pub own : (files : Files) (a : Answers) (ds : List Held) → AllByRecursion (IsDone files) ds → AllByRecursion (λ d. a d.0.path ≡ answer_in d.0) ds →
    AllByRecursion (λ d. IsOwn files a d.0) ds
own files a [] h t = tt
own files a (d ∷ ds) h t = (h.0.entry ∙ ap (λ x. entry_of x (get files d.0.path) d.0.path) (sym t.0), own files a ds h.1 t.1)

pub by_path : (F : List ℕ → Entry) (es fs : List Entry) → AllByRecursion (λ e. e ≡ F e.path) es → AllByRecursion (λ e. e ≡ F e.path) fs →
    paths_of es ≡ paths_of fs → es ≡ fs
by_path F es fs h g e = each es h ∙ ap (map F) e ∙ sym (each fs g)
  where
    each : (es : List Entry) → AllByRecursion (λ e. e ≡ F e.path) es → es ≡ map F (paths_of es)
    each [] h = refl
    each (e ∷ es) h = λ i. h.0 i ∷ each es h.1 i

-- ---- where there is a start something was looked at

pub valid_files : (files : Files) (ds : List Held) (starts : List (List ℕ)) → AllByRecursion (IsDone files) ds → Balanced (log_of ds) [] starts →
    0 < length starts → IsTree files
valid_files files [] starts h b some = absurd (omega (arith, b.weighs (λ p. 1), sum_by-ones starts, some))
valid_files files (d ∷ ds) starts h b some = h.0.valid

walks_rise : (files : Files) (a : Answers) (ordered : List (List ℕ)) → (0 < length ordered → IsTree files) → Lined ordered →
    IsStrictlySortedBy path_cmp (paths_of (flat_map (walk files a) ordered))
unfolding IsStrictlySortedBy
walks_rise files a [] t l = tt
walks_rise files a (p ∷ ps) t l = walks_ascend files a (p ∷ ps) (t (omega arith)) l

-- ---- the list is the walk of the starts in order

pub whole : (files : Files) (ds : List Held) (list : List Entry) (starts ordered : List (List ℕ)) → IsGathered ds list [] starts →
    AllByRecursion (IsDone files) ds → IsPermutation starts ordered → IsStrictlySortedBy path_cmp ordered →
    list ≡ flat_map (walk files (answers_in list)) ordered
whole files ds list starts ordered h done m o =
    let a = answers_in list in
    let rise = list_rises ds list [] starts h in
    let l = lined ordered o (λ x. omega (arith, from_apart starts h.apart x, sum_by-IsPermutation (covers x) starts ordered m)) in
    let told = tells_each ds list h.moves rise in
    let F = λ (q : List ℕ). entry_of (a q) (get files q) q in
    let entries = moved (λ (e : Entry). e ≡ F e.path) (entries_of ds) list h.moves (to_entries (λ e. e ≡ F e.path) ds (own files a ds done told)) in
    let w = flat_map (walk files a) ordered in
    let balance : Balanced (log_of ds) [] ordered =
    record { weighs = λ k. omega (arith, h.balance.weighs k, sum_by-IsPermutation k starts ordered m) } in
    by_path F list w entries (walks_own files a ordered)
    (same_paths (paths_of list) (paths_of w) rise (walks_rise files a ordered (valid_files files ds ordered done balance) l)
    (λ k. omega (
      arith,
      often files a (λ (e : Entry). k e.path) ds [] ordered done told balance,
      as_often (λ e. k e.path) ds list h.moves,
      sum_by-map k (λ (e : Entry). e.path) list,
      sum_by-map k (λ (e : Entry). e.path) w,
    )))
