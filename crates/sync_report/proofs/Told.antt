-- What two walks say, and a comparison of them, where no answer fails and no directory has a child whose path is too long.
use Rattle.sync_report.proofs.Prelude.{◌≡◌, ℕ, Bool, true, false, not, cond, ◌||◌, ◌&&◌, List, [], ◌∷◌, ◌++◌, nat_eq, Option, Some, None, IfSome, refl, ap, ◌∙◌}
use Rattle.sync_report.proofs.Prelude.{sym, subst, false≢true, and_from, and_parts, not-true, or_right, recursion_from_All, IsTrue, is_some, ◌==◌, get, All}
use Rattle.sync_report.proofs.Prelude.{AllByRecursion, find, option_map, pointwise, bytes_decides, below_of, grafted, is_under, is_within, refusal}
use Rattle.sync_report.proofs.Prelude.{graft_undoes_below, Files, Node, kind_of, stat_of, all_weaker, Entry, is_kind, is_of, Row, Findings, IsComparison, IsRow}
use Rattle.sync_report.proofs.Prelude.{exist_of, is_missed, kinds, stat_at, two_of, entry_at, is_closed, is_gone, is_hidden, is_partial, side, Pair, has_other}
use Rattle.sync_report.proofs.Prelude.{is_chosen, is_differ, is_foreign, is_masked, is_only_dest, row_at, EntriesAreTold, IsTold, WalkListsAll, all_told}
use Rattle.sync_report.proofs.Prelude.{entry_of, told, both}
use Rattle.outside.specs.declared.trees.Kind.TheVariants as kind
use Rattle.sync_report.proofs.Lists.{none_any, passing}
use Rattle.sync_report.proofs.Walked.{IsWalk, at_path, each, whole_by_all}

-- ---- one walk

-- what a side has at a path is what the tree has there
pub record TellsAt (found : Option Entry) (node : Option Node) : Type 0 where
  pub there : is_some found ≡ is_some node
  pub stat : stat_at found ≡ option_map stat_of node

-- the entry of a walk in which nothing fails
abbrev Own : Option Node → List ℕ → Entry
Own node p = entry_of (told 0) node p

own_mark : (node : Option Node) (p : List ℕ) → is_closed (Own node p).mark ≡ false
own_mark None p = refl
own_mark (Some n) p = refl

tells : (found : Option Entry) (node : Option Node) (q : List ℕ) → IfSome found (λ e. (is_gone e.mark ≡ false) × (e ≡ Own node q)) →
    (is_some node ≡ true → is_some (stat_at found) ≡ true) → TellsAt found node
tells None None q h some = record { there = refl; stat = refl }
tells None (Some n) q h some = absurd (false≢true (some refl))
tells (Some e) None q h some = absurd (false≢true (sym h.0 ∙ ap (λ (x : Entry). is_gone x.mark) h.1))
tells (Some e) (Some n) q h some = record { there = refl; stat = ap (λ (x : Entry). x.stat) h.1 }

found_holds : (f : Entry → Bool) (P : Entry → Type 0) (es : List Entry) → AllByRecursion P es → IfSome (find f es) (λ e. (f e ≡ true) × P e)
found_holds f P [] h = tt
found_holds f P (e ∷ es) h =
    elim (f e) as (λ b. f e ≡ b → IfSome (cond b (Some e) (find f es)) (λ e. (f e ≡ true) × P e))
    [ true ↦ λ is. (is, h.0) | false ↦ λ _. found_holds f P es h.1 ] refl

if_some : {X : Type 0} (P Q : X → Type 0) (o : Option X) → ((x : X) → P x → Q x) → IfSome o P → IfSome o Q
if_some P Q None t h = tt
if_some P Q (Some x) t h = t x h

module _ (law : EntriesAreTold) (lists : WalkListsAll) (files : Files) (top : List ℕ) (list : List Entry) (w : IsWalk files all_told top list) where
  pub tells_at : (p : List ℕ) → refusal p ≡ None → TellsAt (entry_at (side top list) p) (get files (grafted top p))
  tells_at p v =
      let q = grafted top p in
      tells (entry_at (side top list) p) (get files q) q
      (if_some (λ e. (at_path top p e ≡ true) × (IsTold files all_told e × IsTrue (is_within e.path top)))
      (λ e. (is_gone e.mark ≡ false) × (e ≡ Own (get files q) q)) (entry_at (side top list) p)
      (λ e h.
      let parts = and_parts (not (is_gone e.mark)) (pointwise nat_eq (below_of e.path top) p) h.0 in
      let is : e.path ≡ q = sym (graft_undoes_below e.path top h.1.1) ∙ ap (grafted top) ((bytes_decides (below_of e.path top) p).0 parts.1) in
      (not-true (is_gone e.mark) parts.0, h.1.0.own ∙ (λ i. Own (get files (is i)) (is i))))
      (found_holds (at_path top p) (λ e. IsTold files all_told e × IsTrue (is_within e.path top)) list (each law files all_told top list w)))
      (λ some. whole_by_all law lists files top list w p v some)

  -- nothing is hidden
  pub not_hidden : (p : List ℕ) → All (λ e. e.far ≡ 0) list → is_hidden (side top list) p ≡ false
  not_hidden p near =
      none_any (λ e. not (is_gone e.mark) && (is_partial e && is_under p (below_of e.path top))) list
      (all_weaker (λ e. (IsTold files all_told e × IsTrue (is_within e.path top)) × (e.far ≡ 0))
      (λ e. (not (is_gone e.mark) && (is_partial e && is_under p (below_of e.path top))) ≡ false)
      (λ e h. no_part (not (is_gone e.mark)) (is_partial e) (is_under p (below_of e.path top))
      (λ i. (ap (λ (x : Entry). is_closed x.mark) h.0.0.own ∙ own_mark (get files e.path) e.path) i || not (h.1 i == 0))) list
      (both (λ e. IsTold files all_told e × IsTrue (is_within e.path top)) (λ e. e.far ≡ 0) list (each law files all_told top list w)
      (recursion_from_All (λ (e : Entry). e.far ≡ 0) list near)))
    where
      no_part : (a b c : Bool) → b ≡ false → (a && (b && c)) ≡ false
      no_part true b c e = ap (λ b. b && c) e
      no_part false b c e = refl

-- ---- two walks, and a comparison of them

-- the destination has what the source has not, or something of another kind
abbrev pub is_odd : (source dest : Option Node) → Bool
is_odd None dest = true
is_odd (Some n) None = false
is_odd (Some n) (Some m) = not (is_kind (kind_of n.body) (kind_of m.body))

differ_is : (b : Bool) → is_differ (two_of b) ≡ not b
differ_is true = refl
differ_is false = refl

-- what a row says of nodes
abbrev SaysOf : Option Node → Option Node → Row → Type 0
SaysOf s d row = (row.exist ≡ exist_of (is_some s) (is_some d)) × (row.kind ≡ kinds (option_map stat_of s) (option_map stat_of d))

foreign_is : (s d : Option Node) (row : Row) → is_some d ≡ true → SaysOf s d row → is_foreign (Some row) ≡ is_odd s d
foreign_is s None row some h = absurd (false≢true some)
foreign_is None (Some m) row some h = λ i. is_only_dest (h.0 i) || is_differ (h.1 i)
foreign_is (Some n) (Some m) row some h =
    (λ i. is_only_dest (h.0 i) || is_differ (h.1 i)) ∙ differ_is (is_kind (kind_of n.body) (kind_of m.body))

-- both walks, in which no directory has a child whose path is too long and the source has no other, and a comparison of them
pub record AreCompared (files : Files) (pair : Pair) (source dest : List Entry) (found : Findings) : Type 0 where
  pub left : IsWalk files all_told pair.source source
  pub right : IsWalk files all_told pair.target dest
  pub left_near : All (λ e. e.far ≡ 0) source
  pub right_near : All (λ e. e.far ≡ 0) dest
  pub no_other : All (λ e. is_of kind.Other e.stat ≡ false) source
  pub compared : IsComparison (Some files) (side pair.source source) (side pair.target dest) found

module _ (law : EntriesAreTold) (lists : WalkListsAll) (files : Files) (pair : Pair) (source dest : List Entry) (found : Findings)
    (c : AreCompared files pair source dest found) where
  pub foreign_at : (p : List ℕ) → refusal p ≡ None → is_some (get files (grafted pair.target p)) ≡ true →
      is_foreign (row_at found.rows p) ≡ is_odd (get files (grafted pair.source p)) (get files (grafted pair.target p))
  foreign_at p v some =
      let l = side pair.source source in
      let r = side pair.target dest in
      let a = tells_at law lists files pair.source source c.left p v in
      let b = tells_at law lists files pair.target dest c.right p v in
      let missed = found.failed ++ found.changed in
      let row = passing (λ row. pointwise nat_eq row.path p)
      (λ row. IsRow (Some files) (is_missed l r missed row.path) (entry_at l row.path) (entry_at r row.path) row) found.rows
      (recursion_from_All (λ (row : Row). IsRow (Some files) (is_missed l r missed row.path) (entry_at l row.path) (entry_at r row.path) row) found.rows
      c.compared.each)
      (c.compared.shown p
      ∙ and_from (is_some (entry_at l p) || is_some (entry_at r p)) (not (is_hidden l p || is_hidden r p))
      (or_right (is_some (entry_at l p)) (is_some (entry_at r p)) (b.there ∙ some))
      (λ i. not (not_hidden law lists files pair.source source c.left p c.left_near i
      || not_hidden law lists files pair.target dest c.right p c.right_near i))) in
      let is : row.one.path ≡ p = (bytes_decides row.one.path p).0 row.passes in
      let here = subst (λ x. IsRow (Some files) (is_missed l r missed x) (entry_at l x) (entry_at r x) row.one) is row.holds in
      ap is_foreign row.found
      ∙ foreign_is (get files (grafted pair.source p)) (get files (grafted pair.target p)) row.one some
      (here.exist ∙ (λ i. exist_of (a.there i) (b.there i)), here.kind ∙ (λ i. kinds (a.stat i) (b.stat i)))

  not_masked : (p : List ℕ) → is_masked (side pair.source source) p ≡ false
  not_masked p =
      none_any (λ e. has_other e && is_within p (below_of e.path pair.source)) source
      (all_weaker (λ (e : Entry). is_of kind.Other e.stat ≡ false) (λ (e : Entry). (has_other e && is_within p (below_of e.path pair.source)) ≡ false)
      (λ e h. no_mask (not (is_gone e.mark)) (is_of kind.Other e.stat) (is_within p (below_of e.path pair.source)) h) source
      (recursion_from_All (λ (e : Entry). is_of kind.Other e.stat ≡ false) source c.no_other))
    where
      no_mask : (a b m : Bool) → b ≡ false → ((a && b) && m) ≡ false
      no_mask true b m e = ap (λ b. b && m) e
      no_mask false b m e = refl

  -- an entry of the destination is chosen where it is odd
  pub chosen_is : (e : Entry) → is_some e.stat ≡ true → refusal (below_of e.path pair.target) ≡ None → IsTrue (is_within e.path pair.target) →
      is_some (get files e.path) ≡ true →
      is_chosen (side pair.source source) (side pair.target dest) found.rows e
      ≡ is_odd (get files (grafted pair.source (below_of e.path pair.target))) (get files e.path)
  chosen_is e stat v w some =
      let p = below_of e.path pair.target in
      let back : grafted pair.target p ≡ e.path = graft_undoes_below e.path pair.target w in
      (λ i. stat i && (is_foreign (row_at found.rows p) && not (not_masked p i)))
      ∙ all_true (is_foreign (row_at found.rows p))
      ∙ foreign_at p v (ap (λ q. is_some (get files q)) back ∙ some)
      ∙ ap (λ q. is_odd (get files (grafted pair.source p)) (get files q)) back
    where
      all_true : (b : Bool) → (true && (b && not false)) ≡ b
      all_true true = refl
      all_true false = refl
