-- The fate of one large file, and what it says.
use Rattle.range_copy.proofs.Prelude.{◌≡◌, inl, inr, ℕ, ◌<◌, ◌≤◌, Bool, true, false, not, cond, ◌&&◌, List, length, Option, Some, None, IfSome, refl, ap, ◌∙◌}
use Rattle.range_copy.proofs.Prelude.{sym, subst, arith, false≢true, nat_tests, is_none, nat_le, get, parent_of, refusal, parent_under, under_longer, RoseBy}
use Rattle.range_copy.proofs.Prelude.{Body, Files, Node, content, dir, file, is_dir, is_file, is_root, kind_of, link, other, Kind, Stat, is_kind, is_of}
use Rattle.range_copy.proofs.Prelude.{size_by, Entry, is_failed, is_done, Fate, IsCopied, IsCopyOf, IsEarly, body_of, clashes, early, is_tried, is_untold}
use Rattle.range_copy.proofs.Prelude.{may_fail, parent_failed, target_of, Pair, HasBytes, IsSource, in_way, AreFailed, CanMake, fate_of, fitting_target}
use Rattle.range_copy.proofs.Prelude.{has_path, exceeds, Came, mapped}
use Rattle.std.proofs.Common.{nat_lt}
use Rattle.outside.specs.declared.trees.Kind.TheVariants as kind
use Rattle.level_work.specs.declared.items.Fate.TheVariants as fate
use Rattle.range_copy.specs.Large as large
use Rattle.range_copy.specs.declared.came.Came.TheVariants as came
use Rattle.range_copy.proofs.Composed.{due_by}
use Rattle.range_copy.proofs.Rows.{Row}

-- tests of lengths

long_by : (n : ℕ) → nat_le n 4095 ≡ false → nat_lt 4095 n ≡ true
long_by n h = grind (arith, nat_tests)

short_by : (n : ℕ) → nat_le n 4095 ≡ true → nat_lt 4095 n ≡ false
short_by n h = grind (arith, nat_tests)

pub less_too : (m n : ℕ) → m ≤ n → nat_le n 4095 ≡ true → nat_le m 4095 ≡ true
less_too m n l h = grind (arith, nat_tests)

pub too_long : (pairs : List Pair) (path : List ℕ) → fitting_target pairs path ≡ None → nat_le (length (target_of pairs path)) 4095 ≡ false
too_long pairs path is = by (nat_le (length (target_of pairs path)) 4095) is
  where
    by : (b : Bool) → cond b (Some (target_of pairs path)) None ≡ None → b ≡ false
    by true e = cc
    by false e = refl

pub fits : (pairs : List Pair) (path target : List ℕ) → fitting_target pairs path ≡ Some target →
    (nat_le (length (target_of pairs path)) 4095 ≡ true) × (target ≡ target_of pairs path)
fits pairs path target is = by (nat_le (length (target_of pairs path)) 4095) is
  where
    by : (b : Bool) → cond b (Some (target_of pairs path)) None ≡ Some target → (b ≡ true) × (target ≡ target_of pairs path)
    by true e = (refl, cc)
    by false e = cc

-- a large file is a file

pub is_file_of : (piece : ℕ) (e : Entry) → exceeds piece e ≡ true → is_of kind.File e.stat ≡ true
is_file_of piece e h = by (is_of kind.File e.stat) h
  where
    by : (b : Bool) → (b && nat_lt piece (size_by e.stat)) ≡ true → b ≡ true
    by true h = refl
    by false h = absurd (false≢true h)

pub exceeds_by : (piece : ℕ) (e : Entry) → exceeds piece e ≡ true → piece < size_by e.stat
exceeds_by piece e h = lt piece (size_by e.stat) (by (is_of kind.File e.stat) h)
  where
    by : (b : Bool) → (b && nat_lt piece (size_by e.stat)) ≡ true → nat_lt piece (size_by e.stat) ≡ true
    by true h = h
    by false h = absurd (false≢true h)

    lt : (m n : ℕ) → nat_lt m n ≡ true → m < n
    lt m n h = grind (arith, nat_tests)

no_other : (k : Kind) → is_kind kind.File k ≡ true → is_kind kind.Other k ≡ false
no_other kind.File h = refl
no_other kind.Dir h = refl
no_other kind.Link h = refl
no_other kind.Other h = absurd (false≢true h)

no_link : (k : Kind) → is_kind kind.File k ≡ true → is_kind kind.Link k ≡ false
no_link kind.File h = refl
no_link kind.Dir h = refl
no_link kind.Link h = absurd (false≢true h)
no_link kind.Other h = refl

only_file : (k : Kind) → is_kind kind.File k ≡ true → k ≡ kind.File
only_file kind.File h = refl
only_file kind.Dir h = absurd (false≢true h)
only_file kind.Link h = absurd (false≢true h)
only_file kind.Other h = absurd (false≢true h)

of_kind : (k : Kind) → ((l : Kind) → is_kind kind.File l ≡ true → is_kind k l ≡ false) → (stat : Option Stat) →
    is_of kind.File stat ≡ true → is_of k stat ≡ false
of_kind k h None f = refl
of_kind k h (Some s) f = h s.kind f

-- what stands in its way is of another kind
clash_is : (stat : Option Stat) (there : Option Node) → is_of kind.File stat ≡ true → clashes stat there ≡ in_way there
clash_is None there f = absurd (false≢true f)
clash_is (Some s) None f = refl
clash_is (Some s) (Some n) f = ap (λ k. not (is_kind (kind_of n.body) k)) (only_file s.kind f) ∙ ap not (by n.body)
  where
    by : (b : Body) → is_kind (kind_of b) kind.File ≡ Rattle.outside.specs.Tree.is_file_body b
    by (dir far) = refl
    by (file bytes) = refl
    by (link text) = refl
    by other = refl

file_body : (bytes : List ℕ) (node : Option Node) → HasBytes bytes node → body_of node ≡ Some (file bytes)
file_body bytes None h = absurd (false≢true h.is_file)
file_body bytes (Some n) h = ap Some (by n.body h.is_file h.same)
  where
    by : (b : Body) → Rattle.outside.specs.Tree.is_file_body b ≡ true → Rattle.outside.specs.Tree.bytes_of b ≡ bytes → b ≡ file bytes
    by (dir far) f s = absurd (false≢true f)
    by (file own) f s = ap file s
    by (link text) f s = absurd (false≢true f)
    by other f s = absurd (false≢true f)

copy_of : (stat : Option Stat) (source old new : Option Node) → is_of kind.File stat ≡ true → HasBytes (content source) new →
    IfSome stat (λ stat. IsCopyOf stat.kind source old new)
copy_of None source old new f h = tt
copy_of (Some s) source old new f h = subst (λ k. IsCopyOf k source old new) (sym (only_file s.kind f)) (file_body (content source) new h)

-- what is due whatever stands at the target

abbrev pub early_by : (too failed skipped : Bool) → Option Fate
early_by too failed skipped = cond too (Some fate.TooLong) (cond failed (Some fate.ParentFailed) (cond skipped (Some fate.Skipped) None))

module _ (pairs : List Pair) (rows : List Row) (failed : List (List ℕ)) (are : AreFailed pairs rows failed) (piece : ℕ) (e : Entry)
    (exceeds : exceeds piece e ≡ true) where
  is_a_file : is_of kind.File e.stat ≡ true
  is_a_file = is_file_of piece e exceeds

  no_skip : is_of kind.Other e.stat ≡ false
  no_skip = of_kind kind.Other no_other e.stat is_a_file

  told_text : is_untold e ≡ false
  told_text = ap (λ b. b && is_none e.target) (of_kind kind.Link no_link e.stat is_a_file)

  pub early_long : nat_le (length (target_of pairs e.path)) 4095 ≡ false → early pairs rows e ≡ Some fate.TooLong
  early_long l =
      ap (λ b. early_by b (parent_failed pairs rows (target_of pairs e.path)) (is_of kind.Other e.stat)) (long_by (length (target_of pairs e.path)) l)

  -- whether the entry over it failed
  by_set : nat_le (length (target_of pairs e.path)) 4095 ≡ true → refusal (target_of pairs e.path) ≡ None → is_root (target_of pairs e.path) ≡ false →
      parent_failed pairs rows (target_of pairs e.path) ≡ has_path failed (parent_of (target_of pairs e.path))
  by_set l v low =
      let t = target_of pairs e.path in
      let up = parent_under t v low in
      let longer = under_longer t (parent_of t) up in
      sym (are (parent_of t) (less_too (length (parent_of t)) (length t) (omega (arith, longer)) l))

  pub early_lost : nat_le (length (target_of pairs e.path)) 4095 ≡ true → refusal (target_of pairs e.path) ≡ None → is_root (target_of pairs e.path) ≡ false →
      has_path failed (parent_of (target_of pairs e.path)) ≡ true → early pairs rows e ≡ Some fate.ParentFailed
  early_lost l v low h =
      ap (λ b. early_by b (parent_failed pairs rows (target_of pairs e.path)) (is_of kind.Other e.stat)) (short_by (length (target_of pairs e.path)) l)
      ∙ ap (λ b. early_by false b (is_of kind.Other e.stat)) (by_set l v low ∙ h)

  pub early_none : nat_le (length (target_of pairs e.path)) 4095 ≡ true → refusal (target_of pairs e.path) ≡ None → is_root (target_of pairs e.path) ≡ false →
      has_path failed (parent_of (target_of pairs e.path)) ≡ false → early pairs rows e ≡ None
  early_none l v low h =
      ap (λ b. early_by b (parent_failed pairs rows (target_of pairs e.path)) (is_of kind.Other e.stat)) (short_by (length (target_of pairs e.path)) l)
      ∙ ap (λ b. early_by false b (is_of kind.Other e.stat)) (by_set l v low ∙ h)
      ∙ ap (early_by false false) no_skip

  -- one that is not tried is left
  pub long_copied : (before after : Files) → early pairs rows e ≡ Some fate.TooLong → after ≡ before → IsCopied before after pairs rows e fate.TooLong
  long_copied before after is same = record {
    fate_of = inl (sym (ap (λ o. due_by o (get before (target_of pairs e.path)) e) is));
    left = ap (λ files. get files (target_of pairs e.path)) same;
  }

  pub lost_copied : (before after : Files) → early pairs rows e ≡ Some fate.ParentFailed → after ≡ before → IsCopied before after pairs rows e fate.ParentFailed
  lost_copied before after is same = record {
    fate_of = inl (sym (ap (λ o. due_by o (get before (target_of pairs e.path)) e) is));
    left = ap (λ files. get files (target_of pairs e.path)) same;
  }

  -- one that is tried comes to its fate by what stood there
  due_is : (before : Files) (b : Bool) → early pairs rows e ≡ None → in_way (get before (target_of pairs e.path)) ≡ b →
      due_by (early pairs rows e) (get before (target_of pairs e.path)) e ≡ cond b fate.Conflict fate.Done
  due_is before b is way =
      ap (λ o. due_by o (get before (target_of pairs e.path)) e) is
      ∙ ap (λ c. cond c fate.Conflict (cond (is_untold e) fate.Changed fate.Done)) (clash_is e.stat (get before (target_of pairs e.path)) is_a_file ∙ way)
      ∙ ap (λ u. cond b fate.Conflict (cond u fate.Changed fate.Done)) told_text

  pub tried_copied : (before after : Files) (c : Came) → early pairs rows e ≡ None →
      large.IsLeft (content (get before e.path)) (get before (target_of pairs e.path)) (get after (target_of pairs e.path)) c →
      IsCopied before after pairs rows e (fate_of c)
  tried_copied before after came.Done is h = record {
    fate_of = inl (sym (due_is before false is h.0));
    left = copy_of e.stat (get before e.path) (get before (target_of pairs e.path)) (get after (target_of pairs e.path)) is_a_file h.1;
  }
  tried_copied before after came.Conflict is h = record { fate_of = inl (sym (due_is before true is h.0)); left = h.1 }
  tried_copied before after came.Failed is h = record {
    fate_of = inr (refl, by (in_way (get before (target_of pairs e.path))) refl);
    left = tt;
  }
    where
      may : (b : Bool) → may_fail (cond b fate.Conflict fate.Done) ≡ true
      may true = refl
      may false = refl

      by : (b : Bool) → in_way (get before (target_of pairs e.path)) ≡ b → may_fail (due_by (early pairs rows e) (get before (target_of pairs e.path)) e) ≡ true
      by b way = ap may_fail (due_is before b is way) ∙ may b
  tried_copied before after came.Changed is h = absurd h

  pub tried_early : (c : Came) → early pairs rows e ≡ None → IsEarly pairs rows e (fate_of c)
  tried_early c is = inr (is, tried c, ap (λ u. u && is_done (fate_of c)) told_text)
    where
      tried : (c : Came) → is_tried (fate_of c) ≡ true
      tried came.Done = refl
      tried came.Failed = refl
      tried came.Conflict = refl
      tried came.Changed = refl

-- where nothing was done
pub unchanged : (P : Files → Files → Type 0) (t t1 : Option Files) → t1 ≡ t → ((a b : Files) → b ≡ a → P a b) → IfSome t (λ a. IfSome t1 (P a))
unchanged P t t1 same h = subst (λ u. IfSome t (λ a. IfSome u (P a))) (sym same) (by t)
  where
    by : (t : Option Files) → IfSome t (λ a. IfSome t (P a))
    by None = tt
    by (Some a) = h a a refl

-- a large file whose target is not too long, under the name that the target has there
module _ (pairs : List Pair) (failed : List (List ℕ)) (piece : ℕ) (e : Entry) (big : exceeds piece e ≡ true) (target : List ℕ)
    (is : fitting_target pairs e.path ≡ Some target) (valid : refusal target ≡ None) (low : is_root (target_of pairs e.path) ≡ false) where
  pub same_target : target ≡ target_of pairs e.path
  same_target = (fits pairs e.path target is).1

  own_valid : refusal (target_of pairs e.path) ≡ None
  own_valid = ap refusal (sym same_target) ∙ valid

  pub no_root_there : is_root target ≡ false
  no_root_there = ap is_root same_target ∙ low

  pub source_there : (size : ℕ) (t : Option Files) → size ≡ size_by e.stat → IfSome t (CanMake pairs failed e) → IfSome t (IsSource e.path size)
  source_there size None s c = tt
  source_there size (Some files) s c = subst (λ n. IsSource e.path n files) (sym s) c.source

  pub parent_there : (t : Option Files) → has_path failed (parent_of target) ≡ false → IfSome t (CanMake pairs failed e) →
      IfSome t (λ files. is_dir (get files (parent_of target)) ≡ true)
  parent_there None off c = tt
  parent_there (Some files) off c =
      ap (λ p. is_dir (get files (parent_of p))) same_target
      ∙ c.stand (fits pairs e.path target is).0 own_valid (ap (λ p. has_path failed (parent_of p)) (sym same_target) ∙ off)

  module _ (rows : List Row) (are : AreFailed pairs rows failed) where
    pub lost_there : has_path failed (parent_of target) ≡ true → early pairs rows e ≡ Some fate.ParentFailed
    lost_there h = early_lost pairs rows failed are piece e big (fits pairs e.path target is).0 own_valid low
        (ap (λ p. has_path failed (parent_of p)) (sym same_target) ∙ h)

    pub none_there : has_path failed (parent_of target) ≡ false → early pairs rows e ≡ None
    none_there h = early_none pairs rows failed are piece e big (fits pairs e.path target is).0 own_valid low
        (ap (λ p. has_path failed (parent_of p)) (sym same_target) ∙ h)

    pub copied_there : (t t1 : Option Files) (c : Came) → has_path failed (parent_of target) ≡ false →
        IfSome t (λ before. IfSome t1 (λ after. large.IsLeft (content (get before e.path)) (get before target) (get after target) c)) →
        IfSome t (λ before. IfSome t1 (λ after. IsCopied before after pairs rows e (fate_of c)))
    copied_there t t1 c h told =
        mapped (λ before after. large.IsLeft (content (get before e.path)) (get before (target_of pairs e.path)) (get after (target_of pairs e.path)) c)
        (λ before after. IsCopied before after pairs rows e (fate_of c)) t t1
        (λ a b l. tried_copied pairs rows failed are piece e big a b c (none_there h) l)
        (subst (λ p. IfSome t (λ before. IfSome t1 (λ after. large.IsLeft (content (get before e.path)) (get before p) (get after p) c))) same_target told)

-- a failure was counted
pub cause_of : (c : Came) (x y : ℕ) → (c ≡ came.Failed → RoseBy 1 x y) → RoseBy 0 x y → RoseBy (cond (is_failed (fate_of c)) 1 0) x y
cause_of came.Done x y one none = none
cause_of came.Failed x y one none = one refl
cause_of came.Conflict x y one none = none
cause_of came.Changed x y one none = none
