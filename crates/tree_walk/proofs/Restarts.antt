-- A walk that was cut goes on from what is left.
use Rattle.tree_walk.proofs.Prelude.{◌≡◌, ℕ, ◌+◌, ◌-◌, ◌≤◌, List, [], ◌∷◌, ◌++◌, map, length, refl, ap, ◌∙◌, sym, subst, arith, zero, suc, None, AllByRecursion}
use Rattle.tree_walk.proofs.Prelude.{sum_by, flat_map, get, IsStrictlySortedBy, IsPermutation, sum_by-cons, sum_by-append, sum_by-IsPermutation}
use Rattle.tree_walk.proofs.Prelude.{IsPermutation-sym, recursion_from_All, All-from_recursion, refusal, joined, path_cmp, Files, IsTree, AreNames, names_in}
use Rattle.tree_walk.proofs.Prelude.{children_are_names, all_weaker, Entry, Balanced, Answer, Answers, bare, answer_in, answers_in, entry_of, children_of}
use Rattle.tree_walk.proofs.Prelude.{walk_down, paths_of, Held, IsDone, IsPush, log_of, Apart, IsCut, IsJoined, RestartIsWalk, CutGoesOn, LeftIsApart, log_by}
use Rattle.tree_walk.proofs.Prelude.{sum_by-flat_map, sum_by-map, all_join}
use Rattle.path_text.proofs.Parts as parts
use Rattle.entry_pages.specs.declared.entries.Mark.TheVariants as mark
use Rattle.tree_walk.specs.Walk.{walk}
use Rattle.tree_walk.proofs.Lists.{all_parts}
use Rattle.tree_walk.proofs.Names.{no_names}
use Rattle.tree_walk.proofs.Recursive.{of_children, children_short}
use Rattle.tree_walk.proofs.Covers.{covers, one, lined, from_apart}
use Rattle.tree_walk.proofs.Often.{often}
use Rattle.tree_walk.proofs.Once.{covered, falls, rises}
use Rattle.tree_walk.proofs.Same.{same_paths}
use Rattle.tree_walk.proofs.Lawful.{IsOwn, path_is, walks_ascend, walks_own}
use Rattle.tree_walk.proofs.AnyOrder.{Tells, tells_itself, by_path, moved}
use Rattle.tree_walk.proofs.Cuts.{kids, handled_by, pushed_by, rebalanced, Beside, left_apart, done_beside}
use Rattle.tree_walk.proofs.Ordered.{in_order}

-- ---- the done entries of a cut, as a job would hold them

abbrev held_by : Files → List Entry → List Held
held_by files [] = []
held_by files (e ∷ es) = (e, kids files e) ∷ held_by files es

log_held : (files : Files) (es : List Entry) → log_of (held_by files es) ≡ log_by files es
log_held files [] = refl
log_held files (e ∷ es) = ap (λ log. (e.path, kids files e) ∷ log) (log_held files es)

sum_held : (k : Entry → ℕ) (files : Files) (es : List Entry) → sum_by (λ d. k d.0) (held_by files es) ≡ sum_by k es
sum_held k files [] = refl
sum_held k files (e ∷ es) =
    omega (arith, sum_by-cons (λ (d : Held). k d.0) (e, kids files e) (held_by files es), sum_by-cons k e es, sum_held k files es)

balance_held : (files : Files) (starts left : List (List ℕ)) (done : List Entry) → IsCut files starts done left →
    Balanced (log_of (held_by files done)) left starts
balance_held files starts left done c = subst (λ log. Balanced log left starts) (sym (log_held files done)) c.balance

-- the children of an entry's path are what a job pushes
push_is : (files : Files) (answer : Answer) (e : Entry) → IsTree files → IsPush (e, children_of answer files e.path)
push_is files answer e t =
    let Pushed : List (List ℕ) → Type 0 = λ cs. (names : List (List ℕ)) × AreNames e.path names × (cs ≡ map (joined e.path) names) in
    let pushed : Pushed (children_of answer files e.path) =
    of_children Pushed files answer e.path ([], no_names e.path [] refl, refl) (names_in files e.path, children_are_names files e.path t, refl) in
    record { names = pushed.0; are = pushed.1; is = pushed.2 }

pushes_held : (files : Files) (es : List Entry) → IsTree files → AllByRecursion IsPush (held_by files es)
pushes_held files [] t = tt
pushes_held files (e ∷ es) t = (push_is files (answer_in e) e t, pushes_held files es t)

cut_beside : (files : Files) (starts left : List (List ℕ)) (done : List Entry) → IsTree files → Apart starts → IsCut files starts done left →
    Beside done left
cut_beside files starts left done t apart c x =
    omega (
      arith,
      covered x (held_by files done) left starts (pushes_held files done t) (balance_held files starts left done c),
      from_apart starts apart x,
      sum_held (λ e. one x e.path) files done,
    )

pub left_is_apart : LeftIsApart
left_is_apart files starts left done t apart c =
    let beside = cut_beside files starts left done t apart c in
    (left_apart done left beside, done_beside done left beside)

-- ---- no done path is too long

-- by how much a path is too long
abbrev pub over : List ℕ → ℕ
over path = length path - 4095

pub none_over : (ps : List (List ℕ)) → AllByRecursion (λ p. length p ≤ 4095) ps → sum_by over ps ≡ 0
none_over [] h = refl
none_over (p ∷ ps) h = omega (arith, sum_by-cons over p ps, h.0, none_over ps h.1)

pub kids_over : (files : Files) (es : List Entry) → IsTree files → sum_by (λ e. sum_by over (kids files e)) es ≡ 0
kids_over files [] t = refl
kids_over files (e ∷ es) t =
    omega (
      arith,
      sum_by-cons (λ (e : Entry). sum_by over (kids files e)) e es,
      none_over (kids files e) (children_short files (answer_in e) e.path t),
      kids_over files es t,
    )

each_short : (es : List Entry) → sum_by (λ e. over e.path) es ≡ 0 → AllByRecursion (λ e. length e.path ≤ 4095) es
each_short [] h = tt
each_short (e ∷ es) h = let parts = sum_by-cons (λ (e : Entry). over e.path) e es in (omega (arith, h, parts), each_short es (omega (arith, h, parts)))

done_short : (files : Files) (starts left : List (List ℕ)) (done : List Entry) → IsTree files → AllByRecursion (λ p. length p ≤ 4095) starts →
    IsCut files starts done left → AllByRecursion (λ e. length e.path ≤ 4095) done
done_short files starts left done t short c =
    each_short done
    (omega (arith, c.balance.weighs over, handled_by files over done, pushed_by files over done, none_over starts short, kids_over files done t))

done_held : (files : Files) (es : List Entry) → IsTree files → AllByRecursion (λ e. length e.path ≤ 4095) es →
    AllByRecursion (λ e. e ≡ entry_of (answer_in e) (get files e.path) e.path) es → AllByRecursion (IsDone files) (held_by files es)
done_held files [] t short own = tt
done_held files (e ∷ es) t short own =
    (record { valid = t; short = short.0; entry = own.0; children = refl }, done_held files es t short.1 own.1)

tells_held : (files : Files) (a : Answers) (es : List Entry) → Tells es a → AllByRecursion (λ d. a d.0.path ≡ answer_in d.0) (held_by files es)
tells_held files a [] h = tt
tells_held files a (e ∷ es) h = (h.0, tells_held files a es h.1)

-- ---- a walk has no path that its start does not cover, and each once

walks_once : (x : List ℕ) (w : List ℕ → List Entry) → ((p : List ℕ) → sum_by (λ e. one x e.path) (w p) ≤ covers x p) → (ps : List (List ℕ)) →
    sum_by (λ e. one x e.path) (flat_map w ps) ≤ sum_by (covers x) ps
walks_once x w h [] = omega arith
walks_once x w h (p ∷ ps) =
    omega (arith, sum_by-append (λ (e : Entry). one x e.path) (w p) (flat_map w ps), h p, walks_once x w h ps, sum_by-cons (covers x) p ps)

down_once : (files : Files) (a : Answers) → IsTree files → (x : List ℕ) (levels : ℕ) (p : List ℕ) →
    sum_by (λ e. one x e.path) (walk_down levels files a p) ≤ covers x p
down_once files a t x zero p = omega arith
down_once files a t x (suc levels) p =
    let here = entry_of (a p) (get files p) p in
    let children = children_of (a p) files p in
    omega (
      arith,
      sum_by-cons (λ (e : Entry). one x e.path) here (flat_map (walk_down levels files a) children),
      ap (one x) (path_is (a p) (get files p) p),
      walks_once x (walk_down levels files a) (down_once files a t x levels) children,
      falls x (bare p mark.Fine, children) (push_is files (a p) (bare p mark.Fine) t),
    )

walk_once : (files : Files) (a : Answers) → IsTree files → (x p : List ℕ) → sum_by (λ e. one x e.path) (walk files a p) ≤ covers x p
unfolding walk
walk_once files a t x p = down_once files a t x (4096 - length p) p

-- ---- answers that agree on the paths of a walk give the same walk

abbrev Agree : Answers → Answers → List Entry → Type 0
Agree a b es = AllByRecursion (λ e. a e.path ≡ b e.path) es

walks_agree : (a b : Answers) (v w : List ℕ → List Entry) → ((p : List ℕ) → Agree a b (w p) → v p ≡ w p) → (ps : List (List ℕ)) →
    Agree a b (flat_map w ps) → flat_map v ps ≡ flat_map w ps
walks_agree a b v w h [] g = refl
walks_agree a b v w h (p ∷ ps) g =
    let parts = all_parts (λ (e : Entry). a e.path ≡ b e.path) (w p) (flat_map w ps) g in
    λ i. h p parts.0 i ++ walks_agree a b v w h ps parts.1 i

down_agrees : (files : Files) (a b : Answers) (levels : ℕ) (p : List ℕ) → Agree a b (walk_down levels files b p) →
    walk_down levels files a p ≡ walk_down levels files b p
down_agrees files a b zero p h = refl
down_agrees files a b (suc levels) p h =
    let here : a p ≡ b p = subst (λ q. a q ≡ b q) (path_is (b p) (get files p) p) h.0 in
    (λ i. entry_of (here i) (get files p) p ∷ flat_map (walk_down levels files a) (children_of (here i) files p))
    ∙ ap (λ rest. entry_of (b p) (get files p) p ∷ rest)
    (walks_agree a b (walk_down levels files a) (walk_down levels files b) (down_agrees files a b levels) (children_of (b p) files p) h.1)

walk_agrees : (files : Files) (a b : Answers) (p : List ℕ) → Agree a b (walk files b p) → walk files a p ≡ walk files b p
unfolding walk
walk_agrees files a b p h = down_agrees files a b (4096 - length p) p h

-- two answers that an entry tells are the same
agreed : (a b : Answers) (es : List Entry) → Tells es a → Tells es b → Agree a b es
agreed a b [] h g = tt
agreed a b (e ∷ es) h g = (h.0 ∙ sym g.0, agreed a b es h.1 g.1)

-- ---- the walk of what is left joins what is done

-- what is done and left of the starts, the walk of what is left by the answers that it tells, and both in path order
record IsRestart (files : Files) (starts waiting : List (List ℕ)) (done later list : List Entry) : Type 0 where
  valid : IsTree files
  short : AllByRecursion (λ p. length p ≤ 4095) starts
  apart : Apart starts
  cut : IsCut files starts done waiting
  walks : later ≡ flat_map (walk files (answers_in later)) waiting
  ascend : IsStrictlySortedBy path_cmp (paths_of later)
  joined : IsJoined done later list

joined_sum : (k : Entry → ℕ) (done later list : List Entry) → IsPermutation (done ++ later) list → sum_by k list ≡ sum_by k done + sum_by k later
joined_sum k done later list p = sum_by-IsPermutation k (done ++ later) list p ∙ sum_by-append k done later

list_ascends : (files : Files) (starts waiting : List (List ℕ)) (done later list : List Entry) → IsRestart files starts waiting done later list →
    IsStrictlySortedBy path_cmp (paths_of list)
list_ascends files starts waiting done later list r =
    rises list r.joined.sorted
    (λ x. omega (
      arith,
      joined_sum (λ e. one x e.path) done later list r.joined.all,
      ap (sum_by (λ (e : Entry). one x e.path)) r.walks,
      walks_once x (walk files (answers_in later)) (walk_once files (answers_in later) r.valid x) waiting,
      cut_beside files starts waiting done r.valid r.apart r.cut x,
    ))

-- the list tells the answer of each entry, those that were done and those found later
both_told : (done later list : List Entry) → IsPermutation (done ++ later) list → IsStrictlySortedBy path_cmp (paths_of list) →
    Tells done (answers_in list) × Tells later (answers_in list)
both_told done later list p rise =
    let P : Entry → Type 0 = λ e. answers_in list e.path ≡ answer_in e in
    all_parts P done later (moved P list (done ++ later) (IsPermutation-sym (done ++ later) list p) (tells_itself list rise))

own_done : (files : Files) (a : Answers) (es : List Entry) → AllByRecursion (λ e. e ≡ entry_of (answer_in e) (get files e.path) e.path) es →
    Tells es a → AllByRecursion (IsOwn files a) es
own_done files a [] own h = tt
own_done files a (e ∷ es) own h = (own.0 ∙ ap (λ x. entry_of x (get files e.path) e.path) (sym h.0), own_done files a es own.1 h.1)

-- the walks of the same paths in another order
walks_moved : (files : Files) (a : Answers) (k : Entry → ℕ) (ps qs : List (List ℕ)) → IsPermutation ps qs →
    sum_by k (flat_map (walk files a) qs) ≡ sum_by k (flat_map (walk files a) ps)
walks_moved files a k ps qs p =
    sum_by-flat_map k (walk files a) qs ∙ sum_by-IsPermutation (λ q. sum_by k (walk files a q)) ps qs p ∙ sym (sum_by-flat_map k (walk files a) ps)

whole_again : (files : Files) (starts waiting ordered : List (List ℕ)) (done later list : List Entry) →
    IsRestart files starts waiting done later list → IsPermutation starts ordered → IsStrictlySortedBy path_cmp ordered →
    list ≡ flat_map (walk files (answers_in list)) ordered
whole_again files starts waiting ordered done later list r m o =
    let a = answers_in list in
    let rise = list_ascends files starts waiting done later list r in
    let told = both_told done later list r.joined.all rise in
    let agree = agreed a (answers_in later) later told.1 (tells_itself later r.ascend) in
    let again : later ≡ flat_map (walk files a) waiting =
    r.walks ∙ sym (walks_agree a (answers_in later) (walk files a) (walk files (answers_in later)) (walk_agrees files a (answers_in later)) waiting
    (subst (Agree a (answers_in later)) r.walks agree)) in
    let own = recursion_from_All (λ (e : Entry). e ≡ entry_of (answer_in e) (get files e.path) e.path) done r.cut.own in
    let owns = all_join (IsOwn files a) done later (own_done files a done own told.0)
    (subst (AllByRecursion (IsOwn files a)) (sym again) (walks_own files a waiting)) in
    let short = done_short files starts waiting done r.valid r.short r.cut in
    let w = flat_map (walk files a) ordered in
    by_path (λ q. entry_of (a q) (get files q) q) list w (moved (IsOwn files a) (done ++ later) list r.joined.all owns) (walks_own files a ordered)
    (same_paths (paths_of list) (paths_of w) rise
    (walks_ascend files a ordered r.valid
    (lined ordered o (λ x. omega (arith, from_apart starts r.apart x, sum_by-IsPermutation (covers x) starts ordered m))))
    (λ k. omega (
      arith,
      sum_by-map k (λ (e : Entry). e.path) list,
      sum_by-map k (λ (e : Entry). e.path) w,
      joined_sum (λ e. k e.path) done later list r.joined.all,
      ap (sum_by (λ (e : Entry). k e.path)) again,
      sum_held (λ e. k e.path) files done,
      often files a (λ (e : Entry). k e.path) (held_by files done) waiting starts (done_held files done r.valid short own)
          (tells_held files a done told.0) (balance_held files starts waiting done r.cut),
      walks_moved files a (λ (e : Entry). k e.path) starts ordered m,
    )))

-- what is left, in another order
left_moved : (files : Files) (starts left waiting : List (List ℕ)) (done : List Entry) → IsPermutation left waiting → IsCut files starts done left →
    IsCut files starts done waiting
left_moved files starts left waiting done p c = record {
  own = c.own;
  balance = record { weighs = λ weight. omega (arith, c.balance.weighs weight, sum_by-IsPermutation weight left waiting p) };
}

pub restart_is_walk : RestartIsWalk
restart_is_walk files starts left done later list t valid apart cut walks joined ordered m o =
    let beside = cut_beside files starts left done t apart cut in
    let few : (x : List ℕ) → sum_by (covers x) left ≤ 1 = λ x. omega (arith, beside x) in
    let waiting = in_order left few in
    let is = walks waiting.list waiting.all waiting.ascend in
    let line = lined waiting.list waiting.ascend (λ x. omega (arith, few x, sum_by-IsPermutation (covers x) left waiting.list waiting.all)) in
    let short = all_weaker (λ p. refusal p ≡ None) (λ p. length p ≤ 4095) parts.short starts (recursion_from_All (λ p. refusal p ≡ None) starts valid) in
    let restart : IsRestart files starts waiting.list done later list =
    record {
      valid = t;
      short = short;
      apart = apart;
      cut = left_moved files starts left waiting.list done waiting.all cut;
      walks = is;
      ascend = subst (λ es. IsStrictlySortedBy path_cmp (paths_of es)) (sym is) (walks_ascend files (answers_in later) waiting.list t line);
      joined = joined;
    } in
    whole_again files starts waiting.list ordered done later list restart m o

-- ---- a cut of what is left

pub cut_goes_on : CutGoesOn
cut_goes_on files starts left left' done done' list c c' p =
    let Own : Entry → Type 0 = λ e. e ≡ entry_of (answer_in e) (get files e.path) e.path in
    let owns = all_join Own done done' (recursion_from_All Own done c.own) (recursion_from_All Own done' c'.own) in
    let both : Balanced (log_by files (done ++ done')) left' starts = record {
      weighs = λ weight. omega (
        arith,
        c.balance.weighs weight,
        c'.balance.weighs weight,
        handled_by files weight done,
        handled_by files weight done',
        handled_by files weight (done ++ done'),
        sum_by-append (λ (e : Entry). weight e.path) done done',
        pushed_by files weight done,
        pushed_by files weight done',
        pushed_by files weight (done ++ done'),
        sum_by-append (λ (e : Entry). sum_by weight (kids files e)) done done',
      );
    } in
    record {
      own = All-from_recursion Own list (moved Own (done ++ done') list p owns);
      balance = rebalanced files (done ++ done') list left' starts p both;
    }
