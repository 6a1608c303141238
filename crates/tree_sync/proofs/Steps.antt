-- The steps of a sync together.
use Rattle.tree_sync.proofs.Prelude.{◌≡◌, ℕ, ◌+◌, Bool, List, [], ◌∷◌, map, length, Option, Some, None, IfSome, ap, ◌∙◌, sym, subst, arith, is_some, All}
use Rattle.tree_sync.proofs.Prelude.{count_by, false≢true, All-map, Asks, RoseBy, Files, IsTree, Entry, paths, is_failed, Fate, HaveCauses, ShowsChange}
use Rattle.tree_sync.proofs.Prelude.{ShowsFailure, StatsTold, Findings, IsComparison, side, AreChosen, AreThere, SameButChosen, Pair, AreEarly, CanCopy, Copied}
use Rattle.tree_sync.proofs.Prelude.{FitsTree, SameButTargets, treated, Plan, Begun, results_of, Results, AreCopied, AreRemoved, FitsSync, ReadsShow}
use Rattle.tree_sync.proofs.Prelude.{SameOutside, Synced, chosen_of, copied_of}
use Rattle.tree_sync.proofs.Apart.{can_copy, can_remove, chosen_there, outside_copied, outside_removed}
use Rattle.tree_sync.proofs.Fits.{fits_copy}

weaker : {X : Type 0} (P Q : X → Type 0) → ((x : X) → P x → Q x) → (o : Option X) → IfSome o P → IfSome o Q
weaker P Q t None h = tt
weaker P Q t (Some x) h = t x h

pub left_told : (pair : Pair) (source dest : List Entry) (tree : Option Files) → IfSome tree (FitsSync pair source dest) →
    IfSome tree (λ files. StatsTold files source)
left_told pair source dest tree = weaker (FitsSync pair source dest) (λ files. StatsTold files source) (λ files h. h.left.stats) tree

pub right_told : (pair : Pair) (source dest : List Entry) (tree : Option Files) → IfSome tree (FitsSync pair source dest) →
    IfSome tree (λ files. StatsTold files dest)
right_told pair source dest tree = weaker (FitsSync pair source dest) (λ files. StatsTold files dest) (λ files h. h.right.stats) tree

-- the files that the comparison missed, one by one
pub reads_show : {S : Type 0} (gives : Asks S) (found : Findings) (failed changed : List (List ℕ)) → failed ≡ map (λ m. m.path) found.failed →
    changed ≡ map (λ m. m.path) found.changed → HaveCauses gives found → ReadsShow gives failed changed
reads_show gives found failed changed f c h = record {
  failed = subst (All (ShowsFailure gives)) (sym f) (All-map (ShowsFailure gives) (λ m. m.path) found.failed h.failed);
  changed = subst (All (ShowsChange gives)) (sym c) (All-map (ShowsChange gives) (λ m. m.path) found.changed h.changed);
}

module _ {pair : Pair} {source dest : List Entry} {delete : Bool} {tree now : Option Files} {plan : Plan}
    (b : Begun pair source dest delete tree now plan) where
  abbrev found : Findings
  found = b.is_plan.found

  abbrev removed : List Entry
  removed = chosen_of delete (side pair.source source) (side pair.target dest) found.rows

  abbrev wanted : List Entry
  wanted = copied_of (side pair.source source) found.rows

  -- the chosen entries can be removed
  pub plan_chosen : AreChosen plan.chosen
  plan_chosen = subst AreChosen (sym b.is_plan.chosen) (can_remove pair source dest b.known delete found.rows)

  pub plan_there : IfSome now (AreThere plan.chosen)
  plan_there =
      subst (λ t. IfSome t (AreThere plan.chosen)) (sym b.same) (subst (λ es. IfSome tree (AreThere es)) (sym b.is_plan.chosen)
      (weaker (FitsSync pair source dest) (AreThere removed) (λ files h. chosen_there pair source dest b.known delete found.rows files h.right.stats)
      tree b.fits))

  -- the wanting entries can be copied, and fit the tree that the removal left
  pub plan_copied : CanCopy plan.copied (pair ∷ [])
  plan_copied = subst (λ es. CanCopy es (pair ∷ [])) (sym b.is_plan.copied) (can_copy pair source dest b.known found.rows)

  -- the tree that the removal left
  abbrev Left : Option Files → Type 0
  Left mid = IfSome now (λ before. IfSome mid (SameButChosen (paths plan.chosen) before))

  left_of : (mid : Option Files) → Left mid → IfSome tree (λ before. IfSome mid (SameButChosen (paths removed) before))
  left_of mid h =
      subst (λ es. IfSome tree (λ before. IfSome mid (SameButChosen (paths es) before))) b.is_plan.chosen
      (subst (λ t. IfSome t (λ before. IfSome mid (SameButChosen (paths plan.chosen) before))) b.same h)

  tells_of : (mid : Option Files) → is_some mid ≡ is_some now → is_some mid ≡ is_some tree
  tells_of mid tells = tells ∙ ap is_some b.same

  pub plan_fits : (mid : Option Files) → is_some mid ≡ is_some now → Left mid → IfSome mid (FitsTree plan.copied (pair ∷ []))
  plan_fits mid tells left =
      subst (λ es. IfSome mid (FitsTree es (pair ∷ []))) (sym b.is_plan.copied)
      (by tree mid b.fits b.are_trees b.is_plan.compared (tells_of mid tells) (left_of mid left))
    where
      by : (t m : Option Files) → IfSome t (FitsSync pair source dest) → IfSome t IsTree →
          IsComparison t (side pair.source source) (side pair.target dest) found → is_some m ≡ is_some t →
          IfSome t (λ before. IfSome m (SameButChosen (paths removed) before)) → IfSome m (FitsTree wanted (pair ∷ []))
      by t None f i c e h = tt
      by None (Some mid) f i c e h = absurd (false≢true (sym e))
      by (Some before) (Some mid) f i c e h =
          fits_copy b.law pair source dest delete found before mid i (record { known = b.known; fits = f; compared = c; others = h })

  pub rest_removed : (mid : Option Files) → Left mid → IfSome tree (λ before. IfSome mid (SameOutside pair.target before))
  rest_removed mid left = by tree mid (left_of mid left)
    where
      by : (t m : Option Files) → IfSome t (λ before. IfSome m (SameButChosen (paths removed) before)) →
          IfSome t (λ before. IfSome m (SameOutside pair.target before))
      by None m h = tt
      by (Some before) None h = tt
      by (Some before) (Some mid) h = outside_removed pair source dest b.known delete found.rows before mid h

  pub rest_copied : (mid after : Option Files) → is_some mid ≡ is_some now → Left mid →
      IfSome mid (λ before. IfSome after (SameButTargets (pair ∷ []) plan.copied before)) →
      IfSome tree (λ before. IfSome after (SameOutside pair.target before))
  rest_copied mid after tells left rest =
      by tree mid after (tells_of mid tells) b.fits b.are_trees (left_of mid left)
      (subst (λ es. IfSome mid (λ before. IfSome after (SameButTargets (pair ∷ []) es before))) b.is_plan.copied rest)
    where
      by : (t m a : Option Files) → is_some m ≡ is_some t → IfSome t (FitsSync pair source dest) → IfSome t IsTree →
          IfSome t (λ before. IfSome m (SameButChosen (paths removed) before)) →
          IfSome m (λ before. IfSome a (SameButTargets (pair ∷ []) wanted before)) → IfSome t (λ before. IfSome a (SameOutside pair.target before))
      by None m a e f i h g = tt
      by (Some before) m None e f i h g = tt
      by (Some before) None (Some after) e f i h g = absurd (false≢true e)
      by (Some before) (Some mid) (Some after) e f i h g =
          outside_copied pair source dest b.known b.law delete found.rows before mid after i f.left h g

  -- the three calls are a sync
  pub is_sync : (done : Results) (removals copies : List (List ℕ × Fate)) (mid after : Option Files) → done ≡ results_of plan removals copies →
      AreRemoved plan.chosen removals now mid → AreCopied plan.copied pair copies mid after → Synced pair source dest delete done tree after
  is_sync done removals copies mid after is gone made = record {
    found = found;
    compared = b.is_plan.compared;
    failed = ap (λ (d : Results). d.failed) is ∙ b.is_plan.failed;
    changed = ap (λ (d : Results). d.changed) is ∙ b.is_plan.changed;
    kept = ap (λ (d : Results). d.kept) is ∙ b.is_plan.kept;
    between = mid;
    removed = subst (λ es. AreRemoved es done.removals tree mid) b.is_plan.chosen
        (subst (λ rows. AreRemoved plan.chosen rows tree mid) (sym (ap (λ (d : Results). d.removals) is))
        (subst (λ t. AreRemoved plan.chosen removals t mid) b.same gone));
    copied = subst (λ es. AreCopied es pair done.copies mid after) b.is_plan.copied
        (subst (λ rows. AreCopied plan.copied pair rows mid after) (sym (ap (λ (d : Results). d.copies) is)) made);
  }

pub copied_by : (list : List Entry) (pair : Pair) (pairs : List Pair) (rows : List (List ℕ × Fate)) (mid after : Option Files) → pairs ≡ pair ∷ [] →
    map (λ (row : List ℕ × Fate). row.0) rows ≡ paths (treated list) → AreEarly list pairs rows → is_some after ≡ is_some mid →
    IfSome mid (λ old. IfSome after (Copied list pairs rows old)) → AreCopied list pair rows mid after
copied_by list pair pairs rows mid after is same early tells told = record {
  paths = same;
  early = subst (λ ps. AreEarly list ps rows) is early;
  tells = tells;
  copied = subst (λ ps. IfSome mid (λ old. IfSome after (Copied list ps rows old))) is told;
}

-- counts that rise one after the other
rose_both : (a b x y z : ℕ) → RoseBy a x y → RoseBy b y z → RoseBy (a + b) x z
rose_both a b x y z f g = record { kept = omega (arith, f.kept, g.kept); rose = omega (arith, f.kept, g.kept, f.rose, g.rose) }

abbrev pub failures : List (List ℕ × Fate) → ℕ
failures rows = count_by (λ (row : List ℕ × Fate). is_failed row.1) rows

-- all failures of the three calls were counted
pub blamed_by : (plan : Plan) (removals copies : List (List ℕ × Fate)) (done : Results) (x y z u : ℕ) → done ≡ results_of plan removals copies →
    RoseBy (length plan.failed.items) x y → RoseBy (failures removals) y z → RoseBy (failures copies) z u →
    RoseBy (length done.failed + failures done.removals + failures done.copies) x u
blamed_by plan removals copies done x y z u is one two three =
    subst (λ (d : Results). RoseBy (length d.failed + failures d.removals + failures d.copies) x u) (sym is)
    (rose_both (length plan.failed.items + failures removals) (failures copies) x z u
    (rose_both (length plan.failed.items) (failures removals) x y z one two) three)
