-- What is chosen and copied where nothing stands against a sync: all under a chosen path is chosen, and then nothing is in the way of a copy.
use Rattle.sync_report.proofs.Prelude.{◌≡◌, ◌≢◌, ℕ, ◌<◌, Bool, true, false, not, List, [], ◌∷◌, ◌++◌, filter, length, nat_eq, Option, Some, None, refl, ap, ◌∙◌}
use Rattle.sync_report.proofs.Prelude.{sym, subst, arith, false≢true, and_parts, false_from_ne_true, recursion_from_All, IsTrue, is_some, get, AllByRecursion}
use Rattle.sync_report.proofs.Prelude.{list_any, option_map, pointwise, bytes_decides, below_of, grafted, is_under, is_within, refusal, below_undoes_graft}
use Rattle.sync_report.proofs.Prelude.{before_made, below_made, front_other, graft_undoes_below, names_under, not_one, some_bytes, within_longer, within_up}
use Rattle.sync_report.proofs.Prelude.{append_assoc, UnderDirectories, Body, Files, Node, NodesHavePaths, dir, far_at, file, is_dir, is_dir_body, is_root}
use Rattle.sync_report.proofs.Prelude.{kind_of, link, other, stat_of, Stat, all_weaker, Entry, is_kind, is_of, paths, Findings, side, clashes, Pair, AreWhole}
use Rattle.sync_report.proofs.Prelude.{not_none, is_chosen, EntriesAreTold, IsTold, WalkListsAll, all_told, entry_of, told, both, kind_eq, kind_is}
use Rattle.sync_report.proofs.Prelude.{list_any-map}
use Rattle.outside.specs.declared.trees.Kind.TheVariants as kind
use Rattle.sync_report.proofs.Below.{under_moved}
use Rattle.sync_report.proofs.Lists.{kept, not_kept, passing}
use Rattle.sync_report.proofs.Told.{AreCompared, chosen_is, is_odd}
use Rattle.sync_report.proofs.Walked.{each}

dir_kind : (b : Body) → is_dir_body b ≡ true → kind_of b ≡ kind.Dir
dir_kind (dir far) e = refl
dir_kind (file bytes) e = absurd (false≢true e)
dir_kind (link text) e = absurd (false≢true e)
dir_kind other e = absurd (false≢true e)

-- two directories are not odd
both_dirs : (n m : Option Node) → is_dir n ≡ true → is_dir m ≡ true → is_odd n m ≡ false
both_dirs None m d e = absurd (false≢true d)
both_dirs (Some n) None d e = absurd (false≢true e)
both_dirs (Some n) (Some m) d e = λ i. not (is_kind (dir_kind n.body d i) (dir_kind m.body e i))

-- what is over a path that is not `/` is a path
over_made : (x q : List ℕ) → refusal q ≡ None → length x ≢ 1 → 0 < length x → IsTrue (is_under q x) → refusal x ≡ None
over_made x q v long some u =
    let n = names_under q x u in
    before_made q x n.names (n.whole ∙ ap (λ f. f ++ n.names) (front_other x long) ∙ append_assoc x (47 ∷ []) n.names) some v

-- the far children of a node are told by its entry
far_told : (node : Option Node) (p : List ℕ) (e : Entry) → e ≡ entry_of (told 0) node p → e.far ≡ far_at node
far_told None p e is = ap (λ (x : Entry). x.far) is
far_told (Some n) p e is = ap (λ (x : Entry). x.far) is

stat_some : (node : Option Node) (p : List ℕ) (e : Entry) → e ≡ entry_of (told 0) node p → is_some node ≡ is_some e.stat
stat_some None p e is = ap (λ (x : Entry). is_some x.stat) (sym is)
stat_some (Some n) p e is = ap (λ (x : Entry). is_some x.stat) (sym is)

own_stat : (node : Option Node) (p : List ℕ) (e : Entry) → e ≡ entry_of (told 0) node p → e.stat ≡ option_map stat_of node
own_stat None p e is = ap (λ (x : Entry). x.stat) is
own_stat (Some n) p e is = ap (λ (x : Entry). x.stat) is

-- what stands at a target that is not odd is of the entry's kind
no_clash : (n m : Option Node) (stat : Option Stat) → is_some stat ≡ true → stat ≡ option_map stat_of n → (is_some m ≡ true → is_odd n m ≡ false) →
    clashes stat m ≡ false
no_clash n None stat some is even = refl
no_clash None (Some m) stat some is even = absurd (false≢true (sym (ap is_some is) ∙ some))
no_clash (Some n) (Some m) stat some is even =
    let same : kind_of n.body ≡ kind_of m.body = kind_eq (kind_of n.body) (kind_of m.body) (not_odd (is_kind (kind_of n.body) (kind_of m.body)) (even refl)) in
    ap (λ s. not (is_of (kind_of m.body) s)) is ∙ (λ i. not (is_kind (kind_of m.body) (same i))) ∙ ap not (kind_is (kind_of m.body))
  where
    not_odd : (b : Bool) → not b ≡ false → b ≡ true
    not_odd true e = refl
    not_odd false e = absurd (false≢true (sym e))

long_top : (top : List ℕ) → refusal top ≡ None → is_root top ≡ false → 1 < length top
long_top top v low = omega (arith, not_one top v low, some_bytes top v)

-- the laws that this rests on
pub record Laws : Type 0 where
  pub tells : EntriesAreTold
  pub lists : WalkListsAll
  pub under : UnderDirectories
  pub paths : NodesHavePaths

module _ (laws : Laws) (files : Files) (pair : Pair) (source dest : List Entry) (found : Findings) (c : AreCompared files pair source dest found) where
  abbrev test : Entry → Bool
  test e = is_chosen (side pair.source source) (side pair.target dest) found.rows e

  abbrev chosen : List Entry
  chosen = filter test dest

  valid : (q : List ℕ) → is_some (get files q) ≡ true → refusal q ≡ None
  valid q some = laws.paths files q c.left.tree (not_none (get files q) some)

  -- what is known of an entry of the destination
  record Known (e : Entry) : Type 0 where
    own : e ≡ entry_of (told 0) (get files e.path) e.path
    within : IsTrue (is_within e.path pair.target)

  known : AllByRecursion Known dest
  known = all_weaker (λ e. IsTold files all_told e × IsTrue (is_within e.path pair.target)) Known (λ e h. record { own = h.0.own; within = h.1 }) dest
      (each laws.tells files all_told pair.target dest c.right)

  -- the entry is chosen exactly where it has a stat and is odd
  test_is : (e : Entry) → Known e → is_some e.stat ≡ true →
      test e ≡ is_odd (get files (grafted pair.source (below_of e.path pair.target))) (get files e.path)
  test_is e k stat =
      let some : is_some (get files e.path) ≡ true = stat_some (get files e.path) e.path e k.own ∙ stat in
      chosen_is laws.tells laws.lists files pair source dest found c e stat
      (below_made e.path pair.target (below_of e.path pair.target) refl (valid e.path some) k.within) k.within some

  -- a chosen path
  record IsOdd (q : List ℕ) : Type 0 where
    some : is_some (get files q) ≡ true
    within : IsTrue (is_within q pair.target)
    odd : is_odd (get files (grafted pair.source (below_of q pair.target))) (get files q) ≡ true

  odd_at : (q : List ℕ) → list_any (pointwise nat_eq q) (paths chosen) ≡ true → IsOdd q
  odd_at q h =
      let one = passing (λ (e : Entry). pointwise nat_eq q e.path) (λ e. (test e ≡ true) × Known e) chosen (kept test Known dest known)
      (sym (list_any-map (pointwise nat_eq q) (λ (e : Entry). e.path) chosen) ∙ h) in
      let e = one.one in
      let stat = (and_parts (is_some e.stat) _ one.holds.0).0 in
      subst IsOdd (sym ((bytes_decides q e.path).0 one.passes)) (record {
        some = stat_some (get files e.path) e.path e one.holds.1.own ∙ stat;
        within = one.holds.1.within;
        odd = sym (test_is e one.holds.1 stat) ∙ one.holds.0;
      })

  -- and each odd path is chosen
  is_listed : (q : List ℕ) → is_some (get files q) ≡ true → IsTrue (is_within q pair.target) → list_any (pointwise nat_eq q) (paths dest) ≡ true
  is_listed q some on =
      subst (λ es. list_any (pointwise nat_eq q) (paths es) ≡ true) (sym c.right.is)
      (laws.lists files all_told pair.target q c.right.tree c.right.valid c.right.low on some (λ x u w. refl))

  pub even_at : (q : List ℕ) → is_some (get files q) ≡ true → IsTrue (is_within q pair.target) →
      list_any (pointwise nat_eq q) (paths chosen) ≡ false → is_odd (get files (grafted pair.source (below_of q pair.target))) (get files q) ≡ false
  even_at q some on off = false_from_ne_true (is_odd (get files (grafted pair.source (below_of q pair.target))) (get files q)) (λ odd.
      let none = not_kept test (λ (e : Entry). pointwise nat_eq q e.path) dest (sym (list_any-map (pointwise nat_eq q) (λ (e : Entry). e.path) chosen) ∙ off) in
      let one = passing (λ (e : Entry). pointwise nat_eq q e.path) (λ e. (test e ≡ true → pointwise nat_eq q e.path ≡ false) × Known e) dest
      (both_of (λ e. test e ≡ true → pointwise nat_eq q e.path ≡ false) none)
      (sym (list_any-map (pointwise nat_eq q) (λ (e : Entry). e.path) dest) ∙ is_listed q some on) in
      let e = one.one in
      let is : q ≡ e.path = (bytes_decides q e.path).0 one.passes in
      let stat : is_some e.stat ≡ true = sym (stat_some (get files e.path) e.path e one.holds.1.own) ∙ ap (λ x. is_some (get files x)) (sym is) ∙ some in
      let so : test e ≡ true = test_is e one.holds.1 stat
      ∙ ap (λ x. is_odd (get files (grafted pair.source (below_of x pair.target))) (get files x)) (sym is) ∙ odd in
      false≢true (sym (one.holds.0 so) ∙ one.passes))
    where
      both_of : (Q : Entry → Type 0) → AllByRecursion Q dest → AllByRecursion (λ e. Q e × Known e) dest
      both_of Q h = both Q Known dest h known

  -- all that stands under a chosen path is chosen
  pub are_whole : AreWhole files (paths chosen)
  are_whole p q h u some =
      let o = odd_at p h in
      let on : IsTrue (is_within q pair.target) = within_up q p pair.target u o.within in
      not_false (list_any (pointwise nat_eq q) (paths chosen)) (λ off. false≢true (sym (below o on) ∙ is_so (even_at q some on off)))
    where
      not_false : (b : Bool) → (b ≡ false → ⊥) → b ≡ true
      not_false true h = refl
      not_false false h = absurd (h refl)

      s : List ℕ → List ℕ
      s x = grafted pair.source (below_of x pair.target)

      is_so : is_odd (get files (s q)) (get files q) ≡ false → is_some (get files (s q)) ≡ true
      is_so e = elim (get files (s q)) as (λ n. is_odd n (get files q) ≡ false → is_some n ≡ true)
          [ None ↦ λ e. absurd (false≢true (sym e)) | Some n ↦ λ e. refl ] e

      -- the source has nothing under an odd path
      below : IsOdd p → IsTrue (is_within q pair.target) → is_some (get files (s q)) ≡ false
      below o on = false_from_ne_true (is_some (get files (s q))) (λ there.
          let rest = below_made p pair.target (below_of p pair.target) refl (valid p o.some) o.within in
          let lower = under_moved pair.target pair.source p q o.within u in
          let long : 1 < length pair.source = long_top pair.source c.left.valid c.left.low in
          let longer = within_longer (s p) pair.source (below_undoes_graft.within pair.source (below_of p pair.target) rest) in
          let made = over_made (s p) (s q) (valid (s q) there) (λ e. absurd (omega (arith, e, long, longer))) (omega (arith, long, longer)) lower in
          let upper_dir = laws.under files (s q) (s p) c.left.tree made lower there in
          let own_dir = laws.under files q p c.left.tree (valid p o.some) u some in
          false≢true (sym (both_dirs (get files (s p)) (get files p) upper_dir own_dir) ∙ o.odd))

  -- no directory of it has a child whose path is too long
  pub none_far : AllByRecursion (λ q. far_at (get files q) ≡ 0) (paths chosen)
  none_far = over chosen (all_weaker (λ e. (test e ≡ true) × (Known e × (e.far ≡ 0))) (λ e. far_at (get files e.path) ≡ 0)
      (λ e h. sym (far_told (get files e.path) e.path e h.1.0.own) ∙ h.1.1) chosen (kept test (λ e. Known e × (e.far ≡ 0)) dest
      (both Known (λ e. e.far ≡ 0) dest known (recursion_from_All (λ (e : Entry). e.far ≡ 0) dest c.right_near))))
    where
      over : (es : List Entry) → AllByRecursion (λ e. far_at (get files e.path) ≡ 0) es → AllByRecursion (λ q. far_at (get files q) ≡ 0) (paths es)
      over [] h = tt
      over (e ∷ es) h = (h.0, over es h.1)

  -- ---- then nothing is in the way of a copy

  -- the chosen paths are gone, and no other has changed
  pub record AreGone (mid : Files) : Type 0 where
    pub gone : (q : List ℕ) → list_any (pointwise nat_eq q) (paths chosen) ≡ true → get mid q ≡ None
    pub same : (q : List ℕ) → list_any (pointwise nat_eq q) (paths chosen) ≡ false → get mid q ≡ get files q

  pub free : (mid : Files) → AreGone mid → (e : Entry) → IsTold files all_told e → IsTrue (is_within e.path pair.source) → is_some e.stat ≡ true →
      clashes e.stat (get mid (grafted pair.target (below_of e.path pair.source))) ≡ false
  free mid g e t on stat = by (list_any (pointwise nat_eq goal) (paths chosen)) refl
    where
      rest : List ℕ
      rest = below_of e.path pair.source

      goal : List ℕ
      goal = grafted pair.target rest

      there : is_some (get files e.path) ≡ true
      there = stat_some (get files e.path) e.path e t.own ∙ stat

      made : refusal rest ≡ None
      made = below_made e.path pair.source rest refl (valid e.path there) on

      even : list_any (pointwise nat_eq goal) (paths chosen) ≡ false → is_some (get files goal) ≡ true → is_odd (get files e.path) (get files goal) ≡ false
      even off some =
          ap (λ x. is_odd (get files x) (get files goal))
          (sym (ap (grafted pair.source) (below_undoes_graft.back pair.target rest made) ∙ graft_undoes_below e.path pair.source on))
          ∙ even_at goal some (below_undoes_graft.within pair.target rest made) off

      by : (b : Bool) → list_any (pointwise nat_eq goal) (paths chosen) ≡ b → clashes e.stat (get mid goal) ≡ false
      by true is = ap (clashes e.stat) (g.gone goal is)
      by false off = ap (clashes e.stat) (g.same goal off)
          ∙ no_clash (get files e.path) (get files goal) e.stat stat (own_stat (get files e.path) e.path e t.own) (even off)
