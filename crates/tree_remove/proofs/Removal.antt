-- What became of one chosen path, by the deed that was done there from the bottom up.
use Rattle.tree_remove.proofs.Prelude.{◌≡◌, ◌≢◌, ◌⊎◌, inl, inr, ℕ, ◌<◌, Bool, true, false, cond, List, length, Option, Some, None, refl, ap, ◌∙◌, sym, subst}
use Rattle.tree_remove.proofs.Prelude.{arith, is_some, is_none, false≢true, get, is_under, refusal, Files, Node, Body, dir, file, link, other, is_dir}
use Rattle.tree_remove.proofs.Prelude.{is_dir_body, far_at, far_of, names_in, remove_dir_refusal, remove_file_refusal, is_of, at_and_under, found, left, Item}
use Rattle.tree_remove.proofs.Prelude.{Fate, Removal, WasChosen, HasUnder, NothingUnder, get_here, get_with, at_itself}
use Rattle.outside.specs.declared.plots.WriteError.TheVariants as write
use Rattle.outside.specs.declared.trees.Kind.TheVariants as kind
use Rattle.level_work.specs.declared.items.Fate.TheVariants as fate
use Rattle.level_work.specs.declared.items.Order.TheVariants as order
use Rattle.tree_remove.proofs.Answers.{IsOdd, dir_goes, dir_full, file_full, dir_odd, file_odd, no_far, far_or_some}
use Rattle.tree_remove.proofs.Frames.{removed_here}
use Rattle.tree_remove.proofs.Names.{some_under}

-- all that a path is under is a directory
abbrev pub AreUnderDirs : Files → Type 0
AreUnderDirs files = (q p : List ℕ) → refusal p ≡ None → is_under q p ≡ true → is_some (get files q) ≡ true → is_dir (get files p) ≡ true

-- the item's path is one, and is there as what its entry tells
pub record Stands (files : Files) (x : Item) : Type 0 where
  pub valid : refusal x.path ≡ None
  pub there : is_some (get files x.path) ≡ true
  pub kind : is_dir (get files x.path) ≡ is_of kind.Dir x.entry.stat

-- what the item finds as its level begins
abbrev was : Item → Files → Files → Files
was x before after = found order.BottomUp x.path before after

abbrev refusal_by : Bool → Item → Files → Option Rattle.outside.specs.declared.plots.WriteError.WriteError
refusal_by b x files = cond b (remove_dir_refusal files x.path) (remove_file_refusal (get files x.path))

abbrev Has : Fate → Item → Files → Files → Type 0
Has f x before after = Removal x.path x.entry f (was x before after) (left order.BottomUp x.path before after)

pub not_none : (o : Option Node) → is_some o ≡ true → is_none o ≡ false
not_none None e = absurd (false≢true e)
not_none (Some n) e = refl

no_node : (o : Option Node) → (is_some o ≡ true → ⊥) → o ≡ None
no_node None n = refl
no_node (Some x) n = absurd (n refl)

-- what is no directory has no children
no_dir_near : (o : Option Node) → is_dir o ≡ false → far_at o ≡ 0
no_dir_near None h = refl
no_dir_near (Some n) h = by n.body h
  where
    by : (b : Body) → is_dir_body b ≡ false → far_of b ≡ 0
    by (dir far) h = absurd (false≢true (sym h))
    by (file bytes) h = refl
    by (link text) h = refl
    by other h = refl

-- the node of its own path is the one before
here : (x : Item) (before after : Files) → get (was x before after) x.path ≡ get before x.path
here x before after =
    get_with x.path (get before x.path) (at_and_under x.path after) x.path
    ∙ ap (λ b. cond b (get before x.path) (get (at_and_under x.path after) x.path)) (at_itself x.path)

-- where a path is gone, nothing is under it
bare : (after : Files) (p : List ℕ) → AreUnderDirs after → refusal p ≡ None → get after p ≡ None → NothingUnder after p
bare after p dirs valid gone q under = no_node (get after q) (λ there. false≢true (ap is_dir (sym gone) ∙ dirs q p valid under there))

module _ (before after : Files) (x : Item) (dirs : AreUnderDirs after) (c : Stands before x) where
  was_gone : Has fate.Done x before after → get after x.path ≡ None
  was_gone d = sym (get_here x.path after) ∙ ap (λ m. get m x.path) d.1 ∙ removed_here (was x before after) x.path

  near : (b : Bool) → is_of kind.Dir x.entry.stat ≡ b → refusal_by b x (was x before after) ≡ None → far_at (get before x.path) ≡ 0
  near true e h = ap far_at (sym (here x before after)) ∙ no_far _ (dir_goes _ _ _ _ h)
  near false e h = no_dir_near (get before x.path) (c.kind ∙ e)

  stays : (b : Bool) → is_of kind.Dir x.entry.stat ≡ b → refusal_by b x (was x before after) ≡ Some write.NotEmpty →
      left order.BottomUp x.path before after ≡ was x before after →
      (is_dir (get after x.path) ≡ true) × ((0 < far_at (get after x.path)) ⊎ HasUnder after x.path)
  stays false e h same = absurd (file_full _ _ h)
  stays true e h same =
      let f = dir_full _ _ _ h in
      let kept : get after x.path ≡ get (was x before after) x.path = sym (get_here x.path after) ∙ ap (λ m. get m x.path) same in
      (ap is_dir kept ∙ f.0, by kept (far_or_some _ _ f.1))
    where
      by : get after x.path ≡ get (was x before after) x.path →
          (0 < far_at (get (was x before after) x.path)) ⊎ (0 < length (names_in (was x before after) x.path))
          → (0 < far_at (get after x.path)) ⊎ HasUnder after x.path
      by kept (inl far) = inl (subst (λ o. 0 < far_at o) (sym kept) far)
      by kept (inr some) = inr (some_under after x.path (subst (λ m. 0 < length (names_in m x.path)) (sym same) some))

  -- what was told is not contradicted
  no_change : (b : Bool) → is_of kind.Dir x.entry.stat ≡ b → IsOdd (refusal_by b x (was x before after)) → ⊥
  no_change true e h = dir_odd _ _ _ (ap is_none (here x before after) ∙ not_none (get before x.path) c.there) (ap is_dir (here x before after) ∙ c.kind ∙ e) h
  no_change false e h = file_odd _ _ (ap is_none (here x before after) ∙ not_none (get before x.path) c.there) (ap is_dir (here x before after) ∙ c.kind ∙ e) h

  done_one : Has fate.Done x before after → WasChosen before after x.path fate.Done
  done_one d = record {
    gone = λ _. was_gone d;
    not_empty = λ e. cc;
    kept = λ e. cc;
    failed = λ e. cc;
    no_other = inl refl;
    exact = λ _. ((λ _. (near (is_of kind.Dir x.entry.stat) refl d.0, bare after x.path dirs c.valid (was_gone d))), (λ _. was_gone d));
  }

  not_both : (o : Option Node) → o ≡ None → is_dir o ≡ true → ⊥
  not_both o e i = false≢true (sym (ap is_dir e) ∙ i)

  stays_one : Has fate.NotEmpty x before after → WasChosen before after x.path fate.NotEmpty
  stays_one d =
      let s = stays (is_of kind.Dir x.entry.stat) refl d.0 d.1 in
      let same : get after x.path ≡ get before x.path = sym (get_here x.path after) ∙ ap (λ m. get m x.path) d.1 ∙ here x before after in
      record {
        gone = λ e. cc;
        not_empty = λ _. s;
        kept = λ _. same;
        failed = λ e. cc;
        no_other = inr (inl refl);
        exact = λ _. ((λ e. absurd (not_both (get after x.path) e s.0)), (λ h. absurd (clash same h s.1)));
      }
    where
      clash : get after x.path ≡ get before x.path → (far_at (get before x.path) ≡ 0) × NothingUnder after x.path →
          (0 < far_at (get after x.path)) ⊎ HasUnder after x.path → ⊥
      clash same h (inl far) = omega (arith, far, ap far_at same, h.0)
      clash same h (inr u) = false≢true (ap is_some (sym (h.1 u.what u.under)) ∙ u.there)

  failed_one : WasChosen before after x.path fate.Failed
  failed_one = record {
    gone = λ e. cc;
    not_empty = λ e. cc;
    kept = λ e. cc;
    failed = λ _ u. dirs u.what x.path c.valid u.under u.there;
    no_other = inr (inr refl);
    exact = λ n. absurd (n refl);
  }

  pub was_chosen : (f : Fate) → f ≢ fate.ParentFailed → Has f x before after → WasChosen before after x.path f
  was_chosen fate.Done n d = done_one d
  was_chosen fate.NotEmpty n d = stays_one d
  was_chosen fate.Failed n d = failed_one
  was_chosen fate.Changed n d = absurd (no_change (is_of kind.Dir x.entry.stat) refl d.0)
  was_chosen fate.Conflict n d = absurd d
  was_chosen fate.Skipped n d = absurd d
  was_chosen fate.ParentFailed n d = absurd d
  was_chosen fate.TooLong n d = absurd d
