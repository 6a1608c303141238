-- Each entry of walks is that of a root, or its directory has an entry too.
use Rattle.tree_walk.proofs.Prelude.{◌≡◌, ◌⊎◌, inl, inr, ⊎_elim, ℕ, ◌-◌, zero, suc, Bool, true, false, cond, ◌&&◌, ◌||◌, List, [], ◌∷◌, ◌++◌, map, length}
use Rattle.tree_walk.proofs.Prelude.{Option, Some, None, refl, ◌∙◌, sym, subst, false≢true, or_left, or_right, and_from, recursion_from_All, All-from_recursion}
use Rattle.tree_walk.proofs.Prelude.{list_any-append, nat_eq, IsTrue, get, AllByRecursion, flat_map, list_any, pointwise, bytes_decides, is_name, joined}
use Rattle.tree_walk.proofs.Prelude.{refusal, parent_of, parent_joined, no_slash, Files, Node, Body, dir, file, link, other, IsTree, is_dir, is_dir_body}
use Rattle.tree_walk.proofs.Prelude.{kind_of, names_in, placed_path, children_are_names, all_weaker, Entry, is_kind, is_of, Answer, told, stat_failed}
use Rattle.tree_walk.proofs.Prelude.{list_failed, Answers, entry_of, children_of, walk_down, has_dir, EntriesHaveParents, dir_is_there, all_join}
use Rattle.outside.specs.declared.trees.Kind.TheVariants as kind
use Rattle.tree_walk.specs.Walk.{walk}
use Rattle.tree_walk.proofs.Nodes.{not_none}
use Rattle.tree_walk.proofs.Lawful.{path_is}

-- the test of a directory's entry at a path
abbrev dir_at : List ℕ → Entry → Bool
dir_at q e = pointwise nat_eq q e.path && is_of kind.Dir e.stat

has_left : (xs ys : List Entry) (q : List ℕ) → has_dir xs q ≡ true → has_dir (xs ++ ys) q ≡ true
has_left xs ys q h = list_any-append (dir_at q) xs ys ∙ or_left (list_any (dir_at q) xs) (list_any (dir_at q) ys) h

has_right : (xs ys : List Entry) (q : List ℕ) → has_dir ys q ≡ true → has_dir (xs ++ ys) q ≡ true
has_right xs ys q h = list_any-append (dir_at q) xs ys ∙ or_right (list_any (dir_at q) xs) (list_any (dir_at q) ys) h

-- a path that the walk goes on with from p, whose entry tells a directory
abbrev IsKid : Answer → Option Node → List ℕ → List ℕ → Type 0
IsKid answer found p c = (parent_of c ≡ p) × (is_of kind.Dir (entry_of answer found p).stat ≡ true)

dir_kind : (b : Body) → is_dir_body b ≡ true → is_kind kind.Dir (kind_of b) ≡ true
dir_kind (dir far) d = refl
dir_kind _ d = absurd (false≢true d)

dir_told : (u : ℕ) (found : Option Node) (p : List ℕ) → is_dir found ≡ true → is_of kind.Dir (entry_of (told u) found p).stat ≡ true
dir_told u None p d = absurd (false≢true d)
dir_told u (Some n) p d = dir_kind n.body d

kids_of : (u : ℕ) (found : Option Node) (p : List ℕ) → refusal p ≡ None → is_dir found ≡ true → (names : List (List ℕ)) →
    AllByRecursion (λ n. IsTrue (is_name n)) names → AllByRecursion (IsKid (told u) found p) (map (joined p) names)
kids_of u found p v d [] h = tt
kids_of u found p v d (n ∷ names) h = ((parent_joined p n v (no_slash n h.0), dir_told u found p d), kids_of u found p v d names h.1)

kids : (files : Files) (answer : Answer) (p : List ℕ) → IsTree files → AllByRecursion (IsKid answer (get files p) p) (children_of answer files p)
kids files (told u) p t =
    let names = names_in files p in
    let valid = recursion_from_All (λ n. IsTrue (is_name n)) names (children_are_names files p t).valid in
    elim (is_dir (get files p)) as (λ b. is_dir (get files p) ≡ b → AllByRecursion (IsKid (told u) (get files p) p) (cond b (map (joined p) names) [])) [
      | true ↦ λ d. kids_of u (get files p) p (placed_path files p t (not_none (get files p) (dir_is_there (get files p) d))) d names valid
      | false ↦ λ _. tt
    ] refl
kids files _ p t = tt

-- the entry is that of the top, or its directory has one
abbrev Comes : List Entry → List ℕ → Entry → Type 0
Comes list p e = (e.path ≡ p) ⊎ (has_dir list (parent_of e.path) ≡ true)

module _ (files : Files) (a : Answers) (t : IsTree files) where
  down : (n : ℕ) (p : List ℕ) → AllByRecursion (Comes (walk_down n files a p) p) (walk_down n files a p)
  down zero p = tt
  down (suc n) p = (inl (path_is (a p) (get files p) p), rest (λ c. down n c) (children_of (a p) files p) (kids files (a p) p t) into_whole)
    where
      top : Entry
      top = entry_of (a p) (get files p) p

      below : List Entry
      below = flat_map (walk_down n files a) (children_of (a p) files p)

      into_whole : (q : List ℕ) → has_dir below q ≡ true → has_dir (top ∷ below) q ≡ true
      into_whole q h = or_right (dir_at q top) (list_any (dir_at q) below) h

      -- the top's own entry is that of the directory of its children
      top_is : (c : List ℕ) → IsKid (a p) (get files p) p c → has_dir (top ∷ below) (parent_of c) ≡ true
      top_is c kid =
          or_left (dir_at (parent_of c) top) (list_any (dir_at (parent_of c)) below)
          (and_from (pointwise nat_eq (parent_of c) top.path) (is_of kind.Dir top.stat)
          ((bytes_decides (parent_of c) top.path).1 (kid.0 ∙ sym (path_is (a p) (get files p) p))) kid.1)

      rest : ((c : List ℕ) → AllByRecursion (Comes (walk_down n files a c) c) (walk_down n files a c)) → (cs : List (List ℕ)) →
          AllByRecursion (IsKid (a p) (get files p) p) cs →
          ((q : List ℕ) → has_dir (flat_map (walk_down n files a) cs) q ≡ true → has_dir (top ∷ below) q ≡ true) →
          AllByRecursion (Comes (top ∷ below) p) (flat_map (walk_down n files a) cs)
      rest sub [] h into = tt
      rest sub (c ∷ cs) h into =
          let here = walk_down n files a c in
          let more = flat_map (walk_down n files a) cs in
          all_join (Comes (top ∷ below) p) here more
          (all_weaker (Comes here c) (Comes (top ∷ below) p)
          (λ e. ⊎_elim (λ is. inr (subst (λ q. has_dir (top ∷ below) (parent_of q) ≡ true) (sym is) (top_is c h.0)))
          (λ has. inr (into (parent_of e.path) (has_left here more (parent_of e.path) has))))
          here (sub c))
          (rest sub cs h.1 (λ q g. into q (has_right here more q g)))

  abbrev IsIn : List (List ℕ) → List ℕ → Type 0
  IsIn roots q = list_any (pointwise nat_eq q) roots ≡ true

  -- each entry of the walks of several roots
  come : (roots : List (List ℕ)) → AllByRecursion (λ e. IsIn roots e.path ⊎ (has_dir (flat_map (walk files a) roots) (parent_of e.path) ≡ true))
      (flat_map (walk files a) roots)
  unfolding walk
  come [] = tt
  come (r ∷ rs) =
      let here = walk_down (4096 - length r) files a r in
      let more = flat_map (λ q. walk_down (4096 - length q) files a q) rs in
      all_join _ here more
      (all_weaker (Comes here r) (λ e. IsIn (r ∷ rs) e.path ⊎ (has_dir (here ++ more) (parent_of e.path) ≡ true))
      (λ e. ⊎_elim (λ is. inl (or_left (pointwise nat_eq e.path r) (list_any (pointwise nat_eq e.path) rs) ((bytes_decides e.path r).1 is)))
      (λ has. inr (has_left here more (parent_of e.path) has))) here (down (4096 - length r) r))
      (all_weaker (λ e. IsIn rs e.path ⊎ (has_dir more (parent_of e.path) ≡ true))
      (λ e. IsIn (r ∷ rs) e.path ⊎ (has_dir (here ++ more) (parent_of e.path) ≡ true))
      (λ e. ⊎_elim (λ i. inl (or_right (pointwise nat_eq e.path r) (list_any (pointwise nat_eq e.path) rs) i))
      (λ has. inr (has_right here more (parent_of e.path) has))) more (come rs))

pub entries_have_parents : EntriesHaveParents
entries_have_parents files a roots t =
    All-from_recursion (λ (e : Entry). (list_any (pointwise nat_eq e.path) roots || has_dir (flat_map (walk files a) roots) (parent_of e.path)) ≡ true)
    (flat_map (walk files a) roots)
    (all_weaker (λ (e : Entry). (list_any (pointwise nat_eq e.path) roots ≡ true) ⊎ (has_dir (flat_map (walk files a) roots) (parent_of e.path) ≡ true))
    (λ (e : Entry). (list_any (pointwise nat_eq e.path) roots || has_dir (flat_map (walk files a) roots) (parent_of e.path)) ≡ true)
    (λ e. ⊎_elim
    (λ i. or_left (list_any (pointwise nat_eq e.path) roots) (has_dir (flat_map (walk files a) roots) (parent_of e.path)) i)
    (λ has. or_right (list_any (pointwise nat_eq e.path) roots) (has_dir (flat_map (walk files a) roots) (parent_of e.path)) has))
    (flat_map (walk files a) roots) (come files a t roots))
