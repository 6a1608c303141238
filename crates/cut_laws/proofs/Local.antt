-- Cuts and walks see no more of a tree than what is at and under their starts.
use Rattle.cut_laws.proofs.Prelude.{◌≡◌, ℕ, ◌+◌, ◌-◌, ◌≤◌, Bool, true, false, ◌||◌, cond, List, [], ◌∷◌, map, length, ⊎_elim, refl, ap, ◌∙◌, sym, subst, arith}
use Rattle.cut_laws.proofs.Prelude.{zero, suc, AllByRecursion, sum_by, flat_map, get, recursion_from_All, All-from_recursion, sum_by-cons, joined, Files}
use Rattle.cut_laws.proofs.Prelude.{IsTree, is_dir, names_in, children_are_names, all_weaker, Entry, Balanced, Answer, told, stat_failed, list_failed, Answers}
use Rattle.cut_laws.proofs.Prelude.{answer_in, answers_in, entry_of, children_of, walk_down, is_in, is_in_some, IsCut, log_by, flat_same, no_names, of_children}
use Rattle.cut_laws.proofs.Prelude.{in_itself, in_trans, In, of_all, each_in, above, covers, covers-itself, one, some_covers, falls, each_here, moved, kids}
use Rattle.cut_laws.proofs.Prelude.{handled_by, pushed_by, SameBelow, CutsAreLocal, WalksAreLocal}
use Rattle.tree_walk.specs.Walk.{walk}
use Rattle.cut_laws.proofs.Children.{SameAt, children_in, names_same}

-- ---- what is at or under the starts

-- the path is a start or under one
abbrev pub Within : List (List ℕ) → List ℕ → Type 0
Within starts path = is_in_some starts path ≡ true

in_some : (x p : List ℕ) (ps : List (List ℕ)) → In p ps → is_in x p ≡ true → Within ps x
in_some x p [] i h = absurd i
in_some x p (q ∷ ps) i h =
    ⊎_elim
    (λ e. ap (λ b. b || is_in_some ps x) (subst (λ r. is_in x r ≡ true) e h))
    (λ j. or_right (is_in x q) (is_in_some ps x) (in_some x p ps j h)) i
  where
    or_right : (a b : Bool) → b ≡ true → (a || b) ≡ true
    or_right true b e = refl
    or_right false b e = e

-- what is in a path that is at or under a start is so too
deeper : (starts : List (List ℕ)) (x y : List ℕ) → is_in x y ≡ true → Within starts y → Within starts x
deeper starts x y h w = let a = above y starts w in in_some x a.path starts a.stands (in_trans x y a.path h a.is)

each_within : (starts : List (List ℕ)) → AllByRecursion (Within starts) starts
each_within starts = all_weaker (λ p. In p starts) (Within starts) (λ p i. in_some p p starts i (in_itself p)) starts (each_in starts)

-- what is at or under paths that are all at or under starts
pub all_deeper : (starts left : List (List ℕ)) → AllByRecursion (Within starts) left → (q : List ℕ) → Within left q → Within starts q
all_deeper starts left h q w = let a = above q left w in deeper starts q a.path a.is (of_all (Within starts) left a.path h a.stands)

-- ---- the paths that a walk goes on with

kids_same : (answer : Answer) (old new : Files) (p : List ℕ) → get new p ≡ get old p → SameAt p old new → children_of answer new p ≡ children_of answer old p
kids_same (told unnamed) old new p e same = λ i. cond (is_dir (e i)) (map (joined p) (names_same p old new same i)) []
kids_same _ old new p e same = refl

kids_alike : (starts : List (List ℕ)) (old new : Files) → SameBelow starts old new → (answer : Answer) (p : List ℕ) → Within starts p →
    children_of answer new p ≡ children_of answer old p
kids_alike starts old new same answer p w = kids_same answer old new p (same p w) (λ q h. same q (deeper starts q p h w))

kids_within : (starts : List (List ℕ)) (files : Files) (answer : Answer) (p : List ℕ) → Within starts p →
    AllByRecursion (Within starts) (children_of answer files p)
kids_within starts files answer p w =
    of_children (AllByRecursion (Within starts)) files answer p tt
    (all_weaker (λ q. is_in q p ≡ true) (Within starts) (λ q h. deeper starts q p h w) (map (joined p) (names_in files p)) (children_in files p))

-- ---- walks

down_same : (starts : List (List ℕ)) (old new : Files) → SameBelow starts old new → (a : Answers) (levels : ℕ) (p : List ℕ) → Within starts p →
    walk_down levels new a p ≡ walk_down levels old a p
down_same starts old new same a zero p w = refl
down_same starts old new same a (suc levels) p w =
    let children = children_of (a p) old p in
    (λ i. entry_of (a p) (same p w i) p ∷ flat_map (walk_down levels new a) (kids_alike starts old new same (a p) p w i))
    ∙ ap (λ rest. entry_of (a p) (get old p) p ∷ rest)
    (flat_same (walk_down levels new a) (walk_down levels old a) children
    (all_weaker (Within starts) (λ c. walk_down levels new a c ≡ walk_down levels old a c) (down_same starts old new same a levels) children
    (kids_within starts old (a p) p w)))

walk_same : (starts : List (List ℕ)) (old new : Files) → SameBelow starts old new → (a : Answers) (p : List ℕ) → Within starts p →
    walk new a p ≡ walk old a p
unfolding walk
walk_same starts old new same a p w = down_same starts old new same a (4096 - length p) p w

pub walks_are_local : WalksAreLocal
walks_are_local old new starts list same walks ordered m o =
    let a = answers_in list in
    let within = moved (Within starts) starts ordered m (each_within starts) in
    walks ordered m o
    ∙ sym (flat_same (walk new a) (walk old a) ordered
    (all_weaker (Within starts) (λ p. walk new a p ≡ walk old a p) (walk_same starts old new same a) ordered within))

-- ---- what was done and what is left of a walk is at or under its starts

-- a done path and its children: one of them at most is at or above x, where the path is
kids_fall : (files : Files) (x : List ℕ) (e : Entry) → IsTree files → one x e.path + sum_by (covers x) (kids files e) ≤ covers x e.path
kids_fall files x e t =
    let names = names_in files e.path in
    of_children (λ cs. one x e.path + sum_by (covers x) cs ≤ covers x e.path) files (answer_in e) e.path
    (falls x (e, []) (record { names = []; are = no_names e.path [] refl; is = refl }))
    (falls x (e, map (joined e.path) names) (record { names = names; are = children_are_names files e.path t; is = refl }))

all_fall : (files : Files) (x : List ℕ) (es : List Entry) → IsTree files →
    sum_by (λ e. one x e.path) es + sum_by (λ e. sum_by (covers x) (kids files e)) es ≤ sum_by (λ e. covers x e.path) es
all_fall files x [] t = omega arith
all_fall files x (e ∷ es) t =
    omega (
      arith,
      kids_fall files x e t,
      all_fall files x es t,
      sum_by-cons (λ (e : Entry). one x e.path) e es,
      sum_by-cons (λ (e : Entry). sum_by (covers x) (kids files e)) e es,
      sum_by-cons (λ (e : Entry). covers x e.path) e es,
    )

cut_covered : (files : Files) (starts left : List (List ℕ)) (done : List Entry) → IsTree files → IsCut files starts done left → (x : List ℕ) →
    sum_by (λ e. one x e.path) done + sum_by (covers x) left ≤ sum_by (covers x) starts
cut_covered files starts left done t c x =
    omega (arith, all_fall files x done t, c.balance.weighs (covers x), handled_by files (covers x) done, pushed_by files (covers x) done)

done_within : (files : Files) (starts left : List (List ℕ)) (done : List Entry) → IsTree files → IsCut files starts done left →
    AllByRecursion (λ e. Within starts e.path) done
done_within files starts left done t c =
    all_weaker (λ (e : Entry). 1 ≤ sum_by (λ f. one e.path f.path) done) (λ (e : Entry). Within starts e.path)
    (λ e n. some_covers e.path starts (omega (arith, n, cut_covered files starts left done t c e.path))) done (each_here done)

pub stands_covered : (p : List ℕ) (ps : List (List ℕ)) → In p ps → 1 ≤ sum_by (covers p) ps
stands_covered p [] i = absurd i
stands_covered p (q ∷ ps) i =
    let parts = sum_by-cons (covers p) q ps in
    ⊎_elim
    (λ e. omega (arith, parts, ap (covers p) e, covers-itself p))
    (λ j. omega (arith, parts, stands_covered p ps j)) i

pub left_within : (files : Files) (starts left : List (List ℕ)) (done : List Entry) → IsTree files → IsCut files starts done left →
    AllByRecursion (Within starts) left
left_within files starts left done t c =
    all_weaker (λ q. In q left) (Within starts)
    (λ q i. some_covers q starts (omega (arith, stands_covered q left i, cut_covered files starts left done t c q))) left (each_in left)

-- ---- cuts

abbrev IsOwn : Files → Entry → Type 0
IsOwn files e = e ≡ entry_of (answer_in e) (get files e.path) e.path

own_too : (starts : List (List ℕ)) (old new : Files) → SameBelow starts old new → (es : List Entry) → AllByRecursion (λ e. Within starts e.path) es →
    AllByRecursion (IsOwn old) es → AllByRecursion (IsOwn new) es
own_too starts old new same [] w o = tt
own_too starts old new same (e ∷ es) w o =
    (o.0 ∙ ap (λ node. entry_of (answer_in e) node e.path) (sym (same e.path w.0)), own_too starts old new same es w.1 o.1)

log_same : (starts : List (List ℕ)) (old new : Files) → SameBelow starts old new → (es : List Entry) → AllByRecursion (λ e. Within starts e.path) es →
    log_by new es ≡ log_by old es
log_same starts old new same [] w = refl
log_same starts old new same (e ∷ es) w =
    λ i. (e.path, kids_alike starts old new same (answer_in e) e.path w.0 i) ∷ log_same starts old new same es w.1 i

pub cuts_are_local : CutsAreLocal
cuts_are_local old new starts left done t same c =
    let within = done_within old starts left done t c in
    record {
      own = All-from_recursion (IsOwn new) done (own_too starts old new same done within (recursion_from_All (IsOwn old) done c.own));
      balance = subst (λ log. Balanced log left starts) (sym (log_same starts old new same done within)) c.balance;
    }
