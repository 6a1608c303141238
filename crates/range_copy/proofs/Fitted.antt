-- The small entries of a list fit the tree as all of them do, and where their copy is done the large ones can be made.
use Rattle.range_copy.proofs.Prelude.{◌≡◌, ◌⊎◌, inl, inr, ℕ, Bool, true, false, not, cond, ◌||◌, ◌&&◌, List, [], ◌∷◌, map, Option, Some, None, IfSome, refl, ap}
use Rattle.range_copy.proofs.Prelude.{◌∙◌, sym, subst, nat_eq, is_some, false≢true, or_parts, false_from_ne_true, All-from_recursion, recursion_from_All, get}
use Rattle.range_copy.proofs.Prelude.{All, AllByRecursion, list_any, zip, option_map, pointwise, bytes_decides, ParentMovesToo, IsPreorder, ParentIsOver}
use Rattle.range_copy.proofs.Prelude.{UnderIsContiguous, is_under, is_within, parent_of, refusal, UnderDirectories, Files, IsTree, Node, Body, dir, file, link}
use Rattle.range_copy.proofs.Prelude.{other, is_dir, kind_of, link_at, stat_of, Stat, is_kind, paths, Entry, Fate, is_done, FitsTree, IsCopied, IsCopyOf}
use Rattle.range_copy.proofs.Prelude.{clashes, due, early, is_target, is_untold, may_fail, or_else, target_of, treated, Pair, Fine, Goes, goes, told_dir}
use Rattle.range_copy.proofs.Prelude.{told_there, done_is, weaker, together, Ascend, is_target_of, large_of, small_of, is_so}
use Rattle.outside.specs.declared.trees.Kind.TheVariants as kind
use Rattle.level_work.specs.declared.items.Fate.TheVariants as fate
use Rattle.range_copy.proofs.Parted.{large_all, none_under, over_target, small_all, target_in_parts}
use Rattle.range_copy.proofs.Parted.{treated_small}

-- what is known of each entry
abbrev pub Known : List Pair → Entry → Type 0
Known pairs e = Goes pairs e.path × (refusal e.path ≡ None)

pub known_all : (pairs : List Pair) (es : List Entry) → All (λ e. list_any (λ pair. is_within e.path pair.source) pairs ≡ true) es →
    All (λ e. refusal e.path ≡ None) es → AllByRecursion (Known pairs) es
known_all pairs es h v =
    together (λ (e : Entry). list_any (λ (pair : Pair). is_within e.path pair.source) pairs ≡ true) (λ (e : Entry). refusal e.path ≡ None) (Known pairs) es
    (λ e i w. (goes pairs e.path i, w)) (recursion_from_All (λ (e : Entry). list_any (λ (pair : Pair). is_within e.path pair.source) pairs ≡ true) es h)
    (recursion_from_All (λ (e : Entry). refusal e.path ≡ None) es v)

pub treated_all : (P : Entry → Type 0) (es : List Entry) → AllByRecursion P es → AllByRecursion P (treated es)
treated_all P [] h = tt
treated_all P (e ∷ es) h = elim (is_some e.stat) as (λ b. AllByRecursion P (cond b (e ∷ treated es) (treated es)))
    [ true ↦ (h.0, treated_all P es h.1) | false ↦ treated_all P es h.1 ]

-- of each of the ones and each of the others, the other way round
heads : {X Y : Type 0} (P : X → Y → Type 0) (x : X) (xs : List X) (ys : List Y) → AllByRecursion (λ y. AllByRecursion (λ x. P x y) (x ∷ xs)) ys →
    AllByRecursion (λ y. P x y) ys × AllByRecursion (λ y. AllByRecursion (λ x. P x y) xs) ys
heads P x xs [] h = (tt, tt)
heads P x xs (y ∷ ys) h = let r = heads P x xs ys h.1 in ((h.0.0, r.0), (h.0.1, r.1))

pub turned : {X Y : Type 0} (P : X → Y → Type 0) (xs : List X) (ys : List Y) → AllByRecursion (λ y. AllByRecursion (λ x. P x y) xs) ys →
    AllByRecursion (λ x. AllByRecursion (λ y. P x y) ys) xs
turned P [] ys h = tt
turned P (x ∷ xs) ys h = let r = heads P x xs ys h in (r.0, turned P xs ys r.1)

-- no large file's target is the parent of a target

module _ (moves : ParentMovesToo) (over : ParentIsOver) (order : IsPreorder) (near : UnderIsContiguous) (pairs : List Pair) (f : Fine pairs) where
  no_parent : (e : Entry) → Known pairs e → (ls : List Entry) → AllByRecursion (Known pairs) ls → AllByRecursion (λ l. is_under e.path l.path ≡ false) ls →
      is_target_of pairs ls (parent_of (target_of pairs e.path)) ≡ false
  no_parent e k [] ks off = refl
  no_parent e k (l ∷ ls) ks off =
      let here = false_from_ne_true (pointwise nat_eq (parent_of (target_of pairs e.path)) (target_of pairs l.path)) (λ same.
      let is = (bytes_decides (parent_of (target_of pairs e.path)) (target_of pairs l.path)).0 same in
      false≢true (sym off.0 ∙ over_target moves over pairs f e.path l.path k.0 ks.0.0 k.1 ks.0.1 (sym is)))
      in
      (λ i. here i || no_parent e k ls ks.1 off.1 i)

  pub free_all : (piece : ℕ) (es : List Entry) → Ascend es → AllByRecursion (Known pairs) es →
      AllByRecursion (λ e. is_target_of pairs (large_of piece es) (parent_of (target_of pairs e.path)) ≡ false) es
  free_all piece es s k =
      let valid = weaker (Known pairs) (λ (e : Entry). refusal e.path ≡ None) es (λ e h. h.1) k in
      let off = turned (λ (e l : Entry). is_under e.path l.path ≡ false) es (large_of piece es) (none_under order near piece es s valid) in
      let ls = large_all (Known pairs) piece es k in
      together (Known pairs) (λ (e : Entry). AllByRecursion (λ (l : Entry). is_under e.path l.path ≡ false) (large_of piece es))
      (λ (e : Entry). is_target_of pairs (large_of piece es) (parent_of (target_of pairs e.path)) ≡ false) es
      (λ e h o. no_parent e h (large_of piece es) ls o) k off

-- the small ones fit the tree

abbrev pub Free : List Pair → List Entry → Entry → Type 0
Free pairs large e = is_target_of pairs large (parent_of (target_of pairs e.path)) ≡ false

abbrev Stands : List Pair → List Entry → Files → Entry → Type 0
Stands pairs es before e = is_target pairs es (parent_of (target_of pairs e.path)) ≡ false → is_dir (get before (parent_of (target_of pairs e.path))) ≡ true

pub fits_small : (piece : ℕ) (es : List Entry) (pairs : List Pair) (before : Files) → AllByRecursion (Free pairs (large_of piece es)) es →
    FitsTree es pairs before → FitsTree (small_of piece es) pairs before
fits_small piece es pairs before free f =
    let Told : Entry → Type 0 = λ e. IfSome e.stat (λ stat. option_map stat_of (get before e.path) ≡ Some stat) in
    let Text : Entry → Type 0 = λ e. IfSome e.target (λ text. link_at (get before e.path) ≡ Some text) in
    record {
      told = All-from_recursion Told (small_of piece es) (small_all Told piece es (recursion_from_All Told es f.told));
      targets = All-from_recursion Text (small_of piece es) (small_all Text piece es (recursion_from_All Text es f.targets));
      stand = All-from_recursion (Stands pairs (small_of piece es) before) (treated (small_of piece es))
          (together (Free pairs (large_of piece es)) (Stands pairs es before) (Stands pairs (small_of piece es) before) (treated (small_of piece es))
          (λ e h s off. s (target_in_parts pairs piece es (parent_of (target_of pairs e.path)) ∙ (λ i. off i || h i)))
          (treated_small (Free pairs (large_of piece es)) piece es (treated_all (Free pairs (large_of piece es)) es free))
          (treated_small (Stands pairs es before) piece es (recursion_from_All (Stands pairs es before) (treated es) f.stand)));
    }

-- a directory that was copied is one

due_clash : (too failed odd clash untold : Bool) → fate.Done ≡ or_else (cond too (Some fate.TooLong) (cond failed (Some fate.ParentFailed)
    (cond odd (Some fate.Skipped) None))) (cond clash fate.Conflict (cond untold fate.Changed fate.Done)) → clash ≡ false
due_clash true failed odd clash untold e = cc
due_clash false true odd clash untold e = cc
due_clash false false true clash untold e = cc
due_clash false false false true untold e = cc
due_clash false false false false untold e = refl

dir_kind : (b : Body) → is_kind (kind_of b) kind.Dir ≡ true → Rattle.outside.specs.Tree.is_dir_body b ≡ true
dir_kind (dir far) e = refl
dir_kind (file bytes) e = absurd (false≢true e)
dir_kind (link text) e = absurd (false≢true e)
dir_kind other e = absurd (false≢true e)

dir_after : (o : Option Node) → option_map (λ n. n.body) o ≡ Some (dir 0) → is_dir o ≡ true
dir_after None e = cc
dir_after (Some n) e = let same : n.body ≡ dir 0 = cc in ap Rattle.outside.specs.Tree.is_dir_body same

copied_dir : (stat : Stat) (source old new : Option Node) → stat.kind ≡ kind.Dir → clashes (Some stat) old ≡ false → IsCopyOf stat.kind source old new →
    is_dir new ≡ true
copied_dir stat source None new k c copy = dir_after new (subst (λ k. IsCopyOf k source None new) k copy)
copied_dir stat source (Some n) new k c copy =
    let same : new ≡ Some n = subst (λ k. IsCopyOf k source (Some n) new) k copy in
    ap is_dir same ∙ dir_kind n.body (ap (λ k. is_kind (kind_of n.body) k) (sym k) ∙ is_so (is_kind (kind_of n.body) stat.kind) c)

abbrev Row : Type 0
Row = Entry × (List ℕ × Fate)

-- what is known where the small entries were copied
pub record Copying (pairs : List Pair) (before mid : Files) (rows : List (List ℕ × Fate)) : Type 0 where
  pub law : UnderDirectories
  pub tree : IsTree before

module _ (moves : ParentMovesToo) (over : ParentIsOver) (pairs : List Pair) (f : Fine pairs) (before mid : Files) (rows : List (List ℕ × Fate))
    (w : Copying pairs before mid rows) where
  abbrev IsTold : Entry → Type 0
  IsTold e = IfSome e.stat (λ stat. option_map stat_of (get before e.path) ≡ Some stat)

  -- one entry over another is a directory then, if it was copied
  over_dir : (e p : Entry) → Known pairs e → Known pairs p → is_some e.stat ≡ true → is_some p.stat ≡ true → IsTold e → IsTold p →
      target_of pairs p.path ≡ parent_of (target_of pairs e.path) → IsCopied before mid pairs rows p fate.Done →
      is_dir (get mid (target_of pairs p.path)) ≡ true
  over_dir e p ke kp se sp te tp is copied =
      let under = over_target moves over pairs f e.path p.path ke.0 kp.0 ke.1 kp.1 is in
      let there = told_there (get before e.path) e.stat se te in
      let a_dir = w.law before e.path p.path w.tree kp.1 under there in
      let s = told_dir (get before p.path) p.stat sp tp a_dir in
      by p.stat s.0 s.1 s.2 copied.fate_of copied.left
    where
      by : (told : Option Stat) (stat : Stat) → told ≡ Some stat → stat.kind ≡ kind.Dir →
          (fate.Done ≡ or_else (early pairs rows p) (cond (clashes told (get before (target_of pairs p.path))) fate.Conflict
          (cond (is_untold p) fate.Changed fate.Done)))
          ⊎ ((fate.Done ≡ fate.Failed) × (may_fail (due before pairs rows p) ≡ true)) →
          IfSome told (λ stat. IsCopyOf stat.kind (get before p.path) (get before (target_of pairs p.path)) (get mid (target_of pairs p.path))) →
          is_dir (get mid (target_of pairs p.path)) ≡ true
      by None stat e k d left = cc
      by (Some told) stat e k (inr d) left = absurd (never d.0)
        where
          never : fate.Done ≡ fate.Failed → ⊥
          never e = cc
      by (Some told) stat e k (inl d) left =
          copied_dir told (get before p.path) (get before (target_of pairs p.path)) (get mid (target_of pairs p.path)) (ap (λ (s : Stat). s.kind) same ∙ k)
          (due_clash _ _ _ (clashes (Some told) (get before (target_of pairs p.path))) (is_untold p) d) left
        where
          same : told ≡ stat
          same = cc

  parts_off : (a b : Bool) → (a && b) ≡ false → a ≡ true → b ≡ false
  parts_off true b e t = e
  parts_off false b e t = absurd (false≢true t)

  -- so the parent of a target stands, if no entry whose target it is has failed
  pub parent_done : (e : Entry) → Known pairs e → is_some e.stat ≡ true → IsTold e → (ps : List Entry) (own : List (List ℕ × Fate)) →
      map (λ row. row.0) own ≡ paths ps → AllByRecursion (λ (p : Entry). (is_some p.stat ≡ true) × Known pairs p × IsTold p) ps →
      AllByRecursion (λ (one : Row). IsCopied before mid pairs rows one.0 one.1.1) (zip ps own) →
      list_any (λ (p : Entry). pointwise nat_eq (parent_of (target_of pairs e.path)) (target_of pairs p.path)) ps ≡ true →
      list_any (λ (row : List ℕ × Fate). pointwise nat_eq (target_of pairs row.0) (parent_of (target_of pairs e.path)) && not (is_done row.1)) own ≡ false →
      is_dir (get mid (parent_of (target_of pairs e.path))) ≡ true
  parent_done e ke se te [] own are known copied any off = absurd (false≢true any)
  parent_done e ke se te (p ∷ ps) [] are known copied any off = cc
  parent_done e ke se te (p ∷ ps) (row ∷ own) are known copied any off =
      let q = parent_of (target_of pairs e.path) in
      let first : row.0 ≡ p.path = cc in
      let rest : map (λ (row : List ℕ × Fate). row.0) own ≡ paths ps = cc in
      let parts = or_parts (pointwise nat_eq (target_of pairs row.0) q && not (is_done row.1))
      (list_any (λ (row : List ℕ × Fate). pointwise nat_eq (target_of pairs row.0) q && not (is_done row.1)) own) off in
      elim (pointwise nat_eq q (target_of pairs p.path)) as (λ b. pointwise nat_eq q (target_of pairs p.path) ≡ b →
      (b || list_any (λ (p : Entry). pointwise nat_eq q (target_of pairs p.path)) ps) ≡ true → is_dir (get mid q) ≡ true) [
        | true ↦ λ same any.
            let is : q ≡ target_of pairs p.path = (bytes_decides q (target_of pairs p.path)).0 same in
            let back : pointwise nat_eq (target_of pairs row.0) q ≡ true =
            (bytes_decides (target_of pairs row.0) q).1 (ap (target_of pairs) first ∙ sym is) in
            let done = done_is row.1 (not_true (is_done row.1) (parts_off _ _ parts.0 back)) in
            ap (λ t. is_dir (get mid t)) is ∙ over_dir e p ke known.0.1 se known.0.0 te known.0.2 (sym is)
            (subst (IsCopied before mid pairs rows p) done copied.0)
        | false ↦ λ same any. parent_done e ke se te ps own rest known.1 copied.1 any parts.1
      ] refl any
    where
      not_true : (b : Bool) → not b ≡ false → b ≡ true
      not_true true e = refl
      not_true false e = absurd (false≢true (sym e))
