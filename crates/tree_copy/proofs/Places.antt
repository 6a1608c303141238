-- A node that is made at a path, in place of none or of an old one of its kind.
use Rattle.tree_copy.proofs.Prelude.{◌≡◌, ◌≢◌, inl, inr, ℕ, Bool, true, false, cond, ◌||◌, List, Option, Some, None, IfSome, refl, ap, ◌∙◌, sym, subst, is_some}
use Rattle.tree_copy.proofs.Prelude.{Result, Ok, Err, IfOk, IsTrue, false≢true, get, insert, remove, parent_of, OutOfMemory, Files, Node, is_dir, Area, Answers}
use Rattle.tree_copy.proofs.Prelude.{SameBut, is_top, make_refusal, remove_file_refusal, WriteError, Fate, both_told, IsPlaced, IsReplaced, MadeAnew, Placed}
use Rattle.tree_copy.proofs.Prelude.{TellsFate, Looked, is_old_of, kind_of, node_of, NewNode}
use Rattle.outside.specs.declared.plots.WriteError.TheVariants as write
use Rattle.level_work.specs.declared.items.Fate.TheVariants as fate
use Rattle.tree_copy.proofs.Looks.{Sight, absent, failed, in_way, old_kind, sight, there}
use Rattle.tree_copy.proofs.Makes.{told_all}
use Rattle.tree_copy.proofs.Puts.{put_here, put_others, gone_here, gone_others, answered}

-- what stood at the path is gone, and nothing else changed
pub record Gone (path : List ℕ) (before after : Files) : Type 0 where
  pub others : SameBut path before after
  pub none : get after path ≡ None

pub removed_only : (p : List ℕ) (t t' : Option Files) →
    IfSome t (λ files. (remove_file_refusal (get files p) ≡ None) × (t' ≡ Some (remove files p))) →
    IfSome t (λ files. IfSome t' (Gone p files))
removed_only p t t' = answered (λ files. remove_file_refusal (get files p)) (λ files. remove files p) (Gone p) t t'
    (λ files r. record { others = gone_others p files; none = gone_here p files })

-- a node is at the path, and a refused call left it there
pub record StillTaken (path : List ℕ) (before after : Files) : Type 0 where
  pub same : after ≡ before
  pub there : is_some (get before path) ≡ true

pub replaced_done : (n : Node) (p : List ℕ) (area : Area) (t0 t1 t2 : Option Files) → is_some t1 ≡ is_some t0 →
    IfSome t0 (λ a. IfSome t1 (Gone p a)) →
    IfSome t1 (λ b. (make_refusal area b p ≡ None) × (t2 ≡ Some (insert b p n))) → IfSome t0 (λ a. IfSome t2 (IsReplaced n p (Ok fate.Done) a))
replaced_done n p area t0 t1 t2 tells g m =
    both_told (Gone p) (IsReplaced n p (Ok fate.Done)) (IsReplaced n p (Ok fate.Done)) t0 t1 t2 tells
    (λ a b c u v. record { others = λ q off. v.others q off ∙ u.others q off; answers = v.answers }) g
    (answered (λ b. make_refusal area b p) (λ b. insert b p n) (IsReplaced n p (Ok fate.Done)) t1 t2
    (λ b r. record { others = put_others p n b; answers = put_here p n b }) m)

-- the second of both calls was refused, where nothing is in the way of it any more
record Lost (path : List ℕ) (result : Result Fate OutOfMemory) (between after : Files) : Type 0 where
  others : SameBut path between after
  answers : IfOk result (λ f. f ≡ fate.Failed)

not_refused : (area : Area) (p : List ℕ) (b : Files) (x : WriteError) → is_top area p ≡ true → get b p ≡ None →
    make_refusal area b p ≡ Some x → ⊥
not_refused area p b x top none e = by (get b p) (is_top area p) (is_dir (get b (parent_of p))) none top e
  where
    by : (o : Option Node) (t d : Bool) → o ≡ None → t ≡ true →
        cond (is_some o) (Some write.Exists) (cond (t || d) None (Some write.NoParent)) ≡ Some x → ⊥
    by None true d none top e = cc
    by None false d none top e = cc
    by (Some n) t d none top e = cc

refused : (n : Node) (p : List ℕ) (area : Area) (x : WriteError) (r : Result Fate OutOfMemory) (b : Files) (t2 : Option Files) →
    is_top area p ≡ true → get b p ≡ None →
    TellsFate x r → Answers p (make_refusal area b p) b (insert b p n) (Err x) t2 → IfSome t2 (Lost p r b)
refused n p area write.Failed r b None top none f a = tt
refused n p area write.Failed r b (Some c) top none f a = record { others = a; answers = by r f }
  where
    by : (r : Result Fate OutOfMemory) → TellsFate write.Failed r → IfOk r (λ f. f ≡ fate.Failed)
    by (Ok f) h = h.0
    by (Err e) h = tt
refused n p area write.OutOfMemory r b t2 top none f a = subst (λ o. IfSome o (Lost p r b)) (sym a) (record { others = λ q off. refl; answers = by r f })
  where
    by : (r : Result Fate OutOfMemory) → TellsFate write.OutOfMemory r → IfOk r (λ f. f ≡ fate.Failed)
    by (Ok f) h = absurd (h.1 refl)
    by (Err e) h = tt
refused n p area write.Exists r b t2 top none f a = absurd (not_refused area p b write.Exists top none a.0)
refused n p area write.NoParent r b t2 top none f a = absurd (not_refused area p b write.NoParent top none a.0)
refused n p area write.WrongKind r b t2 top none f a = absurd (not_refused area p b write.WrongKind top none a.0)
refused n p area write.NotEmpty r b t2 top none f a = absurd (not_refused area p b write.NotEmpty top none a.0)
refused n p area write.Absent r b t2 top none f a = absurd (not_refused area p b write.Absent top none a.0)

pub replaced_lost : (n : Node) (p : List ℕ) (area : Area) (x : WriteError) (r : Result Fate OutOfMemory) (t0 t1 t2 : Option Files) →
    is_some t1 ≡ is_some t0 →
    IsTrue (is_top area p) → TellsFate x r → IfSome t0 (λ a. IfSome t1 (Gone p a)) →
    IfSome t1 (λ b. Answers p (make_refusal area b p) b (insert b p n) (Err x) t2) → IfSome t0 (λ a. IfSome t2 (IsReplaced n p r a))
replaced_lost n p area x r None t1 t2 tells top f g m = tt
replaced_lost n p area x r (Some a) None t2 tells top f g m = absurd (false≢true tells)
replaced_lost n p area x r (Some a) (Some b) t2 tells top f g m = by t2 (refused n p area x r b t2 top g.none f m)
  where
    fate_by : (r : Result Fate OutOfMemory) (c : Files) → IfOk r (λ f. f ≡ fate.Failed) → IfOk r (λ f. MadeAnew n p f a c)
    fate_by (Ok f) c e = subst (λ f. MadeAnew n p f a c) (sym e) tt
    fate_by (Err e) c h = tt

    by : (t : Option Files) → IfSome t (Lost p r b) → IfSome t (IsReplaced n p r a)
    by None l = tt
    by (Some c) l = record { others = λ q off. l.others q off ∙ g.others q off; answers = fate_by r c l.answers }

pub placed_new : (n : Node) (is_old : Option Node → Bool) (told : Option Files) (p : List ℕ) (files : Files) → get files p ≡ None →
    IsPlaced n is_old told p (Ok fate.Done) files (insert files p n)
placed_new n is_old told p files none = record {
  others = put_others p n files;
  answers = told_all told _ (λ seen. (inl none, put_here p n files));
  there = λ e. put_here p n files;
}

-- a node that is in the way

module _ (new : NewNode) (told : Option Files) (p : List ℕ) where
  -- it stays, by what a look showed
  pub left_there : (f : Fate) (files : Files) → f ≢ fate.Done → IfSome told (Looked (kind_of new) p f) → is_some (get files p) ≡ true →
      IsPlaced (node_of new) (is_old_of new) told p (Ok f) files files
  left_there f files off look taken = record {
    others = λ q off. refl;
    answers = by told look;
    there = λ is. absurd (subst (λ (r : Result Fate OutOfMemory). IfOk r (λ g. g ≢ fate.Done)) is off refl);
  }
    where
      leaves : Files → Fate → Type 0
      leaves seen f = Placed (node_of new) (is_old_of new) seen p f files files

      seen_as : (seen : Files) → Sight (is_old_of new) (get seen p) f → leaves seen f
      seen_as seen (failed e) = subst (leaves seen) (sym e) tt
      seen_as seen (there e is) = absurd (off e)
      seen_as seen (in_way e some is) = subst (leaves seen) (sym e) (taken, some, is, refl)
      seen_as seen (absent e none) = subst (leaves seen) (sym e) (taken, inl none)

      by : (t : Option Files) → IfSome t (Looked (kind_of new) p f) → IfSome t (λ seen. Placed (node_of new) (is_old_of new) seen p f files files)
      by None look = tt
      by (Some seen) look = seen_as seen (sight (kind_of new) (is_old_of new) (old_kind new) seen p f look)

  is_old : (seen : Files) → Looked (kind_of new) p fate.Done seen → is_old_of new (get seen p) ≡ true
  is_old seen look = by (sight (kind_of new) (is_old_of new) (old_kind new) seen p fate.Done look)
    where
      by : Sight (is_old_of new) (get seen p) fate.Done → is_old_of new (get seen p) ≡ true
      by (failed e) = cc
      by (there e is) = is
      by (in_way e some is) = cc
      by (absent e none) = cc

  -- it was of the new one's kind, and was replaced
  pub replaced_there : (r : Result Fate OutOfMemory) (a b c : Files) → IfSome told (Looked (kind_of new) p fate.Done) → StillTaken p a b →
      IsReplaced (node_of new) p r b c → IsPlaced (node_of new) (is_old_of new) told p r a c
  replaced_there r a b c look taken was = record {
    others = λ q off. was.others q off ∙ ap (λ files. get files q) taken.same;
    answers = by r told look (subst (λ files. IfOk r (λ f. MadeAnew (node_of new) p f files c)) taken.same was.answers);
    there = λ is. subst (λ r. IfOk r (λ f. MadeAnew (node_of new) p f b c)) is was.answers;
  }
    where
      fate_by : (seen : Files) (f : Fate) → is_old_of new (get seen p) ≡ true → MadeAnew (node_of new) p f a c →
          Placed (node_of new) (is_old_of new) seen p f a c
      fate_by seen fate.Done old made = (inr old, made)
      fate_by seen fate.Changed old made = (taken.there, inr (made, old))
      fate_by seen fate.Failed old made = tt
      fate_by seen fate.Conflict old made = absurd made
      fate_by seen fate.NotEmpty old made = made
      fate_by seen fate.Skipped old made = made
      fate_by seen fate.ParentFailed old made = made
      fate_by seen fate.TooLong old made = made

      by : (r : Result Fate OutOfMemory) (t : Option Files) → IfSome t (Looked (kind_of new) p fate.Done) →
          IfOk r (λ f. MadeAnew (node_of new) p f a c) → IfOk r (λ f. IfSome t (λ seen. Placed (node_of new) (is_old_of new) seen p f a c))
      by (Err e) t look made = tt
      by (Ok f) None look made = tt
      by (Ok f) (Some seen) look made = fate_by seen f (is_old seen look) made
