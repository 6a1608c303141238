-- The act of a copy: what its steps come to at and under the path, and what it does by the entry's kind.
use Rattle.tree_copy.proofs.Prelude.{◌≡◌, ◌⊎◌, inl, inr, ℕ, Bool, true, false, List, [], Option, Some, None, IfSome, refl, ap, ◌∙◌, sym, subst, is_some, Result}
use Rattle.tree_copy.proofs.Prelude.{Ok, Err, IfOk, false≢true, get, OutOfMemory, Files, Node, is_dir, is_file, SameBut, new_file, new_link, Stat, Entry}
use Rattle.tree_copy.proofs.Prelude.{size_by, IsDone, at_and_under, Fate, is_done, ByReader, Filled, IsDirMade, IsFilled, IsPlaced, Placed, Spared, CopyKind}
use Rattle.tree_copy.proofs.Prelude.{CopyLink, CopyOne, CopyTold, Differ, LinkBy, MakeDir, MakeFile, done_is, is_link, get_here}
use Rattle.outside.specs.declared.trees.Kind.TheVariants as kind
use Rattle.level_work.specs.declared.items.Fate.TheVariants as fate
use Rattle.tree_copy.proofs.Puts.{mapped}

-- what was told of the path is so of the tree at and under it

here : (p : List ℕ) (a : Files) → is_some (get a p) ≡ true → is_some (get (at_and_under p a) p) ≡ true
here p a e = ap is_some (get_here p a) ∙ e

was : (is_old : Option Node → Bool) (p : List ℕ) (a seen : Files) → ((get a p ≡ None) ⊎ (is_old (get seen p) ≡ true)) →
    (get (at_and_under p a) p ≡ None) ⊎ (is_old (get seen p) ≡ true)
was is_old p a seen (inl e) = inl (get_here p a ∙ e)
was is_old p a seen (inr e) = inr e

differ : (is_old : Option Node → Bool) (p : List ℕ) (a seen : Files) → Differ is_old seen p a → Differ is_old seen p (at_and_under p a)
differ is_old p a seen d = (here p a d.0, by d.1)
  where
    by : ((get seen p ≡ None) ⊎ ((is_dir (get a p) ≡ true) × (is_old (get seen p) ≡ true))) →
        (get seen p ≡ None) ⊎ ((is_dir (get (at_and_under p a) p) ≡ true) × (is_old (get seen p) ≡ true))
    by (inl e) = inl e
    by (inr e) = inr (ap is_dir (get_here p a) ∙ e.0, e.1)

-- a file that is made empty and then filled

both_steps : (seen : Files) (p : List ℕ) (entry : Entry) (f : Fate) (a b c : Files) → Placed (new_file []) is_file seen p fate.Done a b →
    Filled seen entry.path p (size_by entry.stat) f c → MakeFile seen p entry f (at_and_under p a) (at_and_under p c)
both_steps seen p entry fate.Done a b c l w = (was is_file p a seen l.0, record { inside = w.inside; has = get_here p c ∙ w.has })
both_steps seen p entry fate.Changed a b c l w = inl w
both_steps seen p entry fate.Failed a b c l w = tt
both_steps seen p entry fate.Conflict a b c l w = absurd w
both_steps seen p entry fate.NotEmpty a b c l w = w
both_steps seen p entry fate.Skipped a b c l w = w
both_steps seen p entry fate.ParentFailed a b c l w = w
both_steps seen p entry fate.TooLong a b c l w = w

after_both : (told : Option Files) (p : List ℕ) (entry : Entry) (r : Result Fate OutOfMemory) (a b c : Files) →
    IsPlaced (new_file []) is_file told p (Ok fate.Done) a b →
    SameBut p b c → IfSome told (λ seen. IsFilled seen entry.path p (size_by entry.stat) r c) → IsDone (ByReader MakeFile told) p entry r a c
after_both told p entry r a b c u o v = record { others = λ q off. o q off ∙ u.others q off; answers = by told r u.answers v }
  where
    by : (told : Option Files) (r : Result Fate OutOfMemory) → IfSome told (λ seen. Placed (new_file []) is_file seen p fate.Done a b) →
        IfSome told (λ seen. IsFilled seen entry.path p (size_by entry.stat) r c) →
        IfOk r (λ f. ByReader MakeFile told p entry f (at_and_under p a) (at_and_under p c))
    by told (Err e) l w = tt
    by None (Ok f) l w = tt
    by (Some seen) (Ok f) l w = both_steps seen p entry f a b c l w

pub file_filled : (told : Option Files) (p : List ℕ) (entry : Entry) (f : Fate) (r : Result Fate OutOfMemory) (t0 t1 t2 : Option Files) →
    is_done f ≡ true →
    is_some t1 ≡ is_some t0 → IfSome t0 (λ a. IfSome t1 (IsPlaced (new_file []) is_file told p (Ok f) a)) → IfSome t1 (λ b. IfSome t2 (SameBut p b)) →
    IfSome told (λ seen. IfSome t2 (IsFilled seen entry.path p (size_by entry.stat) r)) →
    IfSome t0 (λ a. IfSome t2 (IsDone (ByReader MakeFile told) p entry r a))
file_filled told p entry f r None t1 t2 e tells u o v = tt
file_filled told p entry f r (Some a) None t2 e tells u o v = absurd (false≢true tells)
file_filled told p entry f r (Some a) (Some b) None e tells u o v = tt
file_filled told p entry f r (Some a) (Some b) (Some c) e tells u o v =
    after_both told p entry r a b c (subst (λ f. IsPlaced (new_file []) is_file told p (Ok f) a b) (done_is f e) u) o (by told v)
  where
    by : (told : Option Files) → IfSome told (λ seen. IfSome (Some c) (IsFilled seen entry.path p (size_by entry.stat) r)) →
        IfSome told (λ seen. IsFilled seen entry.path p (size_by entry.stat) r c)
    by None v = tt
    by (Some seen) v = v

-- a file that is not made, since something is in its way
pub file_refused : (told : Option Files) (p : List ℕ) (entry : Entry) (f : Fate) (t0 t1 : Option Files) → is_done f ≡ false →
    IfSome t0 (λ a. IfSome t1 (IsPlaced (new_file []) is_file told p (Ok f) a)) →
    IfSome t0 (λ a. IfSome t1 (IsDone (ByReader MakeFile told) p entry (Ok f) a))
file_refused told p entry f t0 t1 off = mapped (IsPlaced (new_file []) is_file told p (Ok f)) (IsDone (ByReader MakeFile told) p entry (Ok f)) t0 t1
    (λ a b u. record { others = u.others; answers = by a b told f off u.answers })
  where
    by : (a b : Files) (told : Option Files) (f : Fate) → is_done f ≡ false → IfSome told (λ seen. Placed (new_file []) is_file seen p f a b) →
        ByReader MakeFile told p entry f (at_and_under p a) (at_and_under p b)
    by a b None f off l = tt
    by a b (Some seen) fate.Done off l = absurd (false≢true (sym off))
    by a b (Some seen) fate.Conflict off l = (here p a l.0, l.1, l.2, ap (at_and_under p) l.3)
    by a b (Some seen) fate.Changed off l = inr (differ is_file p a seen l)
    by a b (Some seen) fate.Failed off l = tt
    by a b (Some seen) fate.NotEmpty off l = l
    by a b (Some seen) fate.Skipped off l = l
    by a b (Some seen) fate.ParentFailed off l = l
    by a b (Some seen) fate.TooLong off l = l

-- what is done where the entry tells a directory
pub dir_told : (told : Option Files) (p : List ℕ) (entry : Entry) (stat : Stat) (r : Result Fate OutOfMemory) (t0 t1 : Option Files) →
    entry.stat ≡ Some stat → stat.kind ≡ kind.Dir → IfSome t0 (λ a. IfSome t1 (IsDirMade told p r a)) →
    IfSome t0 (λ a. IfSome t1 (IsDone (ByReader CopyOne told) p entry r a))
dir_told told p entry stat r t0 t1 e is = mapped (IsDirMade told p r) (IsDone (ByReader CopyOne told) p entry r) t0 t1
    (λ a b d. record { others = (d entry).others; answers = by told r (at_and_under p a) (at_and_under p b) (d entry).answers })
  where
    by : (told : Option Files) (r : Result Fate OutOfMemory) (a b : Files) → IfOk r (λ f. ByReader MakeDir told p entry f a b) →
        IfOk r (λ f. ByReader CopyOne told p entry f a b)
    by told (Err x) a b d = tt
    by None (Ok f) a b d = tt
    by (Some seen) (Ok f) a b d =
        subst (λ o. CopyTold o seen p entry f a b) (sym e) (subst (λ k. CopyKind k seen p entry f a b) (sym is) d)

-- a link with the text that the entry tells

link_placed : (text : List ℕ) (seen : Files) (p : List ℕ) (entry : Entry) (f : Fate) (a b : Files) → entry.target ≡ Some text →
    Placed (new_link text) is_link seen p f a b → CopyLink seen p entry f (at_and_under p a) (at_and_under p b)
link_placed text seen p entry f a b e l =
    subst (λ t. LinkBy t seen p entry f (at_and_under p a) (at_and_under p b)) (sym e) (by f l)
  where
    by : (f : Fate) → Placed (new_link text) is_link seen p f a b → LinkBy (Some text) seen p entry f (at_and_under p a) (at_and_under p b)
    by fate.Done l = (was is_link p a seen l.0, get_here p b ∙ l.1)
    by fate.Conflict l = (here p a l.0, l.1, l.2, ap (at_and_under p) l.3)
    by fate.Changed l = differ is_link p a seen l
    by fate.Failed l = tt
    by fate.NotEmpty l = l
    by fate.Skipped l = l
    by fate.ParentFailed l = l
    by fate.TooLong l = l

pub link_told : (told : Option Files) (p text : List ℕ) (entry : Entry) (r : Result Fate OutOfMemory) (t0 t1 : Option Files) →
    entry.target ≡ Some text →
    IfSome t0 (λ a. IfSome t1 (IsPlaced (new_link text) is_link told p r a)) → IfSome t0 (λ a. IfSome t1 (IsDone (ByReader CopyLink told) p entry r a))
link_told told p text entry r t0 t1 e = mapped (IsPlaced (new_link text) is_link told p r) (IsDone (ByReader CopyLink told) p entry r) t0 t1
    (λ a b u. record { others = u.others; answers = by told r a b u.answers })
  where
    by : (told : Option Files) (r : Result Fate OutOfMemory) (a b : Files) →
        IfOk r (λ f. IfSome told (λ seen. Placed (new_link text) is_link seen p f a b)) →
        IfOk r (λ f. ByReader CopyLink told p entry f (at_and_under p a) (at_and_under p b))
    by told (Err x) a b l = tt
    by None (Ok f) a b l = tt
    by (Some seen) (Ok f) a b l = link_placed text seen p entry f a b e l

-- a link of which no text is known
pub link_spared : (told : Option Files) (p : List ℕ) (entry : Entry) (f : Fate) (t : Option Files) → entry.target ≡ None →
    IfSome told (λ seen. Spared seen p f) → IfSome t (λ a. IfSome t (IsDone (ByReader CopyLink told) p entry (Ok f) a))
link_spared told p entry f None e l = tt
link_spared told p entry f (Some a) e l = record { others = λ q off. refl; answers = by told l }
  where
    left : (seen : Files) (f : Fate) → Spared seen p f → LinkBy None seen p entry f (at_and_under p a) (at_and_under p a)
    left seen fate.Conflict l = (l.0, l.1, refl)
    left seen fate.Changed l = (l, refl)
    left seen fate.Failed l = tt
    left seen fate.Done l = l
    left seen fate.NotEmpty l = l
    left seen fate.Skipped l = l
    left seen fate.ParentFailed l = l
    left seen fate.TooLong l = l

    by : (told : Option Files) → IfSome told (λ seen. Spared seen p f) → ByReader CopyLink told p entry f (at_and_under p a) (at_and_under p a)
    by None l = tt
    by (Some seen) l = subst (λ t. LinkBy t seen p entry f (at_and_under p a) (at_and_under p a)) (sym e) (left seen f l)
