-- A walk has an entry for each node that is its root or under it, where the files answered of every directory on the way.
use Rattle.tree_walk.proofs.Prelude.{◌≡◌, ◌⊎◌, inl, inr, ⊎_elim, ℕ, ◌+◌, ◌<◌, ◌≤◌, zero, suc, Bool, true, false, cond, ◌||◌, List, [], ◌∷◌, ◌++◌, map, length}
use Rattle.tree_walk.proofs.Prelude.{Option, Some, None, refl, ap, ◌∙◌, sym, subst, arith, eqb, is_some, slice_get, AllByRecursion, flat_map, filter_map}
use Rattle.tree_walk.proofs.Prelude.{cons_option, list_any, get, keys, contains_key-keys, eq_by_cmp, pointwise, bytes_decides, false≢true, or_left, or_right}
use Rattle.tree_walk.proofs.Prelude.{or_cases, joined, refusal, parent_of, level_of, path_cmp, is_under, is_within, path_cmp_ties, front-joined, parent_above}
use Rattle.tree_walk.proofs.Prelude.{parent_under, short, under_longer, under_within, same_or_under, within_up, Files, IsTree, is_dir, is_root, name_below}
use Rattle.tree_walk.proofs.Prelude.{names_in, under, is_top, leased, IsPart, AreTops, placed_path, child_is, child_of_parent, get_part, dir_is_there}
use Rattle.tree_walk.proofs.Prelude.{leases_keep_trees, Entry, Answer, told, stat_failed, list_failed, Answers, is_told, entry_of, children_of, walk, paths_of}
use Rattle.tree_walk.proofs.Prelude.{WalkListsAll}
use Rattle.tree_walk.proofs.Recursive.{walk_is, children_are, children_short}
use Rattle.tree_walk.proofs.Lawful.{path_is}
use Rattle.tree_walk.proofs.Nodes.{not_none}
use Rattle.tree_walk.proofs.Standing.{In}

-- an entry of the list has the path
abbrev Has : List Entry → List ℕ → Type 0
Has es q = list_any (pointwise eqb q) (paths_of es) ≡ true

not_left : (a b : Bool) → a ≡ false → (a || b) ≡ true → b ≡ true
not_left a b e h = ap (λ c. c || b) (sym e) ∙ h

here : (e : Entry) (es : List Entry) (q : List ℕ) → q ≡ e.path → Has (e ∷ es) q
here e es q is = or_left (pointwise eqb q e.path) (list_any (pointwise eqb q) (paths_of es)) ((bytes_decides q e.path).1 is)

left : (xs ys : List Entry) (q : List ℕ) → Has xs q → Has (xs ++ ys) q
left [] ys q h = absurd (false≢true h)
left (x ∷ xs) ys q h =
    ⊎_elim (λ e. or_left (pointwise eqb q x.path) _ e) (λ e. or_right (pointwise eqb q x.path) _ (left xs ys q e))
    (or_cases (pointwise eqb q x.path) (list_any (pointwise eqb q) (paths_of xs)) h)

right : (xs ys : List Entry) (q : List ℕ) → Has ys q → Has (xs ++ ys) q
right [] ys q h = h
right (x ∷ xs) ys q h = or_right (pointwise eqb q x.path) _ (right xs ys q h)

split : (xs ys : List Entry) (q : List ℕ) → Has (xs ++ ys) q → Has xs q ⊎ Has ys q
split [] ys q h = inr h
split (x ∷ xs) ys q h =
    ⊎_elim (λ e. inl (or_left (pointwise eqb q x.path) _ e))
    (λ e. ⊎_elim (λ l. inl (or_right (pointwise eqb q x.path) _ l)) (λ r. inr r) (split xs ys q e))
    (or_cases (pointwise eqb q x.path) (list_any (pointwise eqb q) (paths_of (xs ++ ys))) h)

of_one : (w : List ℕ → List Entry) (cs : List (List ℕ)) (c q : List ℕ) → In c cs → Has (w c) q → Has (flat_map w cs) q
of_one w [] c q i h = absurd i
of_one w (d ∷ cs) c q i h =
    ⊎_elim (λ e. left (w d) (flat_map w cs) q (subst (λ x. Has (w x) q) e h)) (λ j. right (w d) (flat_map w cs) q (of_one w cs c q j h)) i

-- a path of the list whose walk has the path
record Some_of (w : List ℕ → List Entry) (cs : List (List ℕ)) (q : List ℕ) : Type 0 where
  one : List ℕ
  stands : In one cs
  has : Has (w one) q

some_of : (w : List ℕ → List Entry) (cs : List (List ℕ)) (q : List ℕ) → Has (flat_map w cs) q → Some_of w cs q
some_of w [] q h = absurd (false≢true h)
some_of w (c ∷ cs) q h =
    ⊎_elim (λ l. record { one = c; stands = inl refl; has = l })
    (λ r. let s = some_of w cs q r in record { one = s.one; stands = inr s.stands; has = s.has })
    (split (w c) (flat_map w cs) q h)

each : (P : List ℕ → Type 0) (cs : List (List ℕ)) (c : List ℕ) → AllByRecursion P cs → In c cs → P c
each P [] c h i = absurd i
each P (d ∷ cs) c h i = ⊎_elim (λ e. subst P (sym e) h.0) (λ j. each P cs c h.1 j) i

same_some : (a b : List ℕ) → Some a ≡ Some b → a ≡ b
same_some a b e = cc

no_more : (x : List ℕ) → None ≡ Some x → ⊥
no_more x e = cc

-- two steps up
under_up : (q p top : List ℕ) → is_under q p ≡ true → is_under p top ≡ true → is_under q top ≡ true
under_up q p top up over =
    ⊎_elim (λ same. absurd (not_longer same)) (λ is. is) (same_or_under q top (within_up q p top up (under_within p top over)))
  where
    not_longer : q ≡ top → ⊥
    not_longer same =
        let long : length top < length p = under_longer p top over in
        let longer : length p < length q = under_longer q p up in
        let as_long : length q ≡ length top = ap length same in
        absurd (omega (arith, long, longer, as_long))

-- the children of a directory of which the files answered
children_told : (answer : Answer) (files : Files) (p : List ℕ) → is_told answer ≡ true → children_of answer files p ≡ children_of (told 0) files p
children_told (told u) files p e = refl
children_told _ files p e = absurd (false≢true e)

module _ (files : Files) (a : Answers) (t : IsTree files) where
  abbrev kids : List ℕ → List (List ℕ)
  kids p = children_of (told 0) files p

  has_itself : (p : List ℕ) → length p ≤ 4095 → Has (walk files a p) p
  has_itself p s =
      subst (λ es. Has es p) (sym (walk_is files a p t s))
      (here (entry_of (a p) (get files p) p) (flat_map (walk files a) (children_of (a p) files p)) p (sym (path_is (a p) (get files p) p)))

  -- of a path that a walk has, and of which the files answered, it has the children
  closed : (n : ℕ) (root p c : List ℕ) → length root ≤ 4095 → 4096 ≤ n + length root → is_told (a p) ≡ true → Has (walk files a root) p → In c (kids p) →
      Has (walk files a root) c
  closed zero root p c s few tells h i = absurd (omega (arith, s, few))
  closed (suc n) root p c s few tells h i =
      let w = walk files a in
      let top = entry_of (a root) (get files root) root in
      let below = children_of (a root) files root in
      let back = sym (walk_is files a root t s) in
      subst (λ es. Has es c) back
      (or_right (pointwise eqb c top.path) _
      (⊎_elim
      (λ is.
      let same : p ≡ root = (bytes_decides p top.path).0 is ∙ path_is (a root) (get files root) root in
      let all : below ≡ kids root = children_told (a root) files root (subst (λ x. is_told (a x) ≡ true) same tells) in
      let j : In c below = subst (λ cs. In c cs) (sym all) (subst (λ x. In c (kids x)) same i) in
      of_one w below c c j (has_itself c (each (λ x. length x ≤ 4095) below c (children_short files (a root) root t) j)))
      (λ deeper.
      let r = some_of w below p deeper in
      let few_bytes = each (λ x. length x ≤ 4095) below r.one (children_short files (a root) root t) r.stands in
      let long = each (λ x. length root < length x) below r.one (children_are files (a root) root t).longer r.stands in
      of_one w below r.one c r.stands (closed n r.one p c few_bytes (omega (arith, few, long)) tells r.has i))
      (or_cases (pointwise eqb p top.path) (list_any (pointwise eqb p) (paths_of (flat_map w below))) (subst (λ es. Has es p) (walk_is files a root t s) h))))

  -- a node is a child of its parent
  named : (p q m : List ℕ) (qs : List (List ℕ)) → list_any (eq_by_cmp path_cmp q) qs ≡ true → name_below p q ≡ Some m →
      In q (map (joined p) (filter_map (name_below p) qs))
  named p q m [] e is = absurd (false≢true e)
  named p q m (x ∷ qs) e is =
      ⊎_elim
      (λ same.
      let eq : q ≡ x = (bytes_decides q x).0 (path_cmp_ties q x ∙ same) in
      subst (λ o. In q (map (joined p) (cons_option o (filter_map (name_below p) qs)))) (sym (ap (name_below p) (sym eq) ∙ is))
      (inl ((child_is p q m is).0 ∙ front-joined p m)))
      (λ later. behind (name_below p x) (named p q m qs later is))
      (or_cases (eq_by_cmp path_cmp q x) (list_any (eq_by_cmp path_cmp q) qs) e)
    where
      behind : (o : Option (List ℕ)) → In q (map (joined p) (filter_map (name_below p) qs)) →
          In q (map (joined p) (cons_option o (filter_map (name_below p) qs)))
      behind None h = h
      behind (Some n) h = inr h

  child : (q : List ℕ) → is_some (get files q) ≡ true → refusal q ≡ None → is_root q ≡ false → is_dir (get files (parent_of q)) ≡ true →
      In q (kids (parent_of q))
  child q some fine off dir =
      subst (λ b. In q (cond b (map (joined (parent_of q)) (names_in files (parent_of q))) [])) (sym dir)
      (elim (name_below (parent_of q) q) as
      (λ o. name_below (parent_of q) q ≡ o → is_some o ≡ true → In q (map (joined (parent_of q)) (names_in files (parent_of q)))) [
        | None ↦ λ is s. absurd (false≢true s)
        | Some m ↦ λ is s. named (parent_of q) q m (keys files) (sym (contains_key-keys files q) ∙ some) is
      ] refl (child_of_parent q fine off))

  valid : (q : List ℕ) → is_some (get files q) ≡ true → refusal q ≡ None
  valid q some = placed_path files q t (not_none (get files q) some)

  module _ (root : List ℕ) (fine : refusal root ≡ None) (low : is_root root ≡ false) where
    abbrev tops : List (List ℕ)
    tops = root ∷ []

    are_tops : AreTops tops
    are_tops = record { valid = at (λ x. refusal x ≡ None) fine; no_root = at (λ x. is_root x ≡ false) low; one_level = levels }
      where
        at : (P : List ℕ → Type 0) → P root → (i : ℕ) (x : List ℕ) → slice_get tops i ≡ Some x → P x
        at P h zero x e = subst P (same_some root x e) h
        at P h (suc i) x e = absurd (no_more x e)

        levels : (i j : ℕ) (x y : List ℕ) → slice_get tops i ≡ Some x → slice_get tops j ≡ Some y → level_of x ≡ level_of y
        levels i j x y d e = at (λ x. level_of x ≡ level_of y) (at (λ y. level_of root ≡ level_of y) refl j y e) i x d

    part : IsPart tops (leased tops files)
    part = leases_keep_trees.part tops files are_tops t

    or_false : (b : Bool) → (b || false) ≡ b
    or_false true = refl
    or_false false = refl

    in_part : (q : List ℕ) → is_within q root ≡ true → get (leased tops files) q ≡ get files q
    in_part q on = get_part tops files q ∙ ap (λ b. cond b (get files q) None) (or_false (is_within q root) ∙ on)

    -- the files answered of every path on the way from the root
    abbrev OnTheWay : List ℕ → Type 0
    OnTheWay q = (p : List ℕ) → is_under q p ≡ true → is_within p root ≡ true → is_told (a p) ≡ true

    -- where the walk has the parent, it has the path
    step : (q : List ℕ) → is_within q root ≡ true → is_some (get files q) ≡ true → OnTheWay q →
        ((p : List ℕ) → level_of p < level_of q → is_within p root ≡ true → is_some (get files p) ≡ true → OnTheWay p → Has (walk files a root) p) →
        Has (walk files a root) q
    step q on some way up =
        elim (pointwise eqb root q) as (λ b. pointwise eqb root q ≡ b → Has (walk files a root) q) [
          | true ↦ λ is. subst (λ x. Has (walk files a root) x) ((bytes_decides root q).0 is) (has_itself root (short root fine))
          | false ↦ λ off. below off
        ] refl
      where
        p : List ℕ
        p = parent_of q

        here_some : is_some (get (leased tops files) q) ≡ true
        here_some = ap is_some (in_part q on) ∙ some

        below : pointwise eqb root q ≡ false → Has (walk files a root) q
        below off =
            let d : is_dir (get (leased tops files) p) ≡ true =
            not_left (is_top (under tops) q) (is_dir (get (leased tops files) p)) (ap (λ b. b || false) off) (part.parents q here_some) in
            let within : is_within p root ≡ true = sym (or_false (is_within p root)) ∙ part.inside p (dir_is_there (get (leased tops files) p) d) in
            let dir : is_dir (get files p) ≡ true = ap is_dir (sym (in_part p within)) ∙ d in
            let no = part.no_root q here_some in
            let over : is_under q p ≡ true = parent_under q (valid q some) no in
            let further : OnTheWay p = λ x u w. way x (under_up q p x over u) w in
            let above = up p (parent_above q (valid q some) no) within (dir_is_there (get files p) dir) further in
            closed 4096 root p q (short root fine) (omega arith) (way p over within) above (child q some (valid q some) no dir)

    lists : (n : ℕ) (q : List ℕ) → level_of q ≤ n → is_within q root ≡ true → is_some (get files q) ≡ true → OnTheWay q → Has (walk files a root) q
    lists zero q few on some way = step q on some way (λ p up w s h. absurd (omega (arith, few, up)))
    lists (suc n) q few on some way = step q on some way (λ p up w s h. lists n p (omega (arith, few, up)) w s h)

pub walk_lists_all : WalkListsAll
walk_lists_all files a root q t fine low on some way = lists files a t root fine low (level_of q) q (omega arith) on some way
