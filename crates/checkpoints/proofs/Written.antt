-- What stands after the files of a checkpoint are written.
use Rattle.checkpoints.proofs.Prelude.{◌≡◌, ◌⊎◌, inl, inr, ℕ, ◌+◌, ◌<◌, ◌≤◌, zero, suc, Bool, true, false, ◌||◌, List, [], ◌∷◌, map, length, Option, Some, None}
use Rattle.checkpoints.proofs.Prelude.{refl, ap, sym, ◌∙◌, subst, arith, add-zero, zero-add, IfSome, is_some, nat_eq, list_any, range_with_len, pointwise, get}
use Rattle.checkpoints.proofs.Prelude.{insert, false≢true, or_parts, Files, is_dir, SameBut, new_file, HoldsFile, put_one, Entry, Spells, Two, file_path}
use Rattle.checkpoints.proofs.Prelude.{HoldLists, SameButFiles, Side, Saved, output_of, SameButAll, SameButOutputs, list_path, checkpoint_paths, IsKept}
use Rattle.checkpoints.proofs.Prelude.{HoldsNewest, IsCleared, IsGone, IsTorn}
use Rattle.checkpoints.proofs.Paths.{file_differs, list_differs}

-- ---- what the files hold

-- a tree whose files of the ranks hold their lists, and that then got the list file
one_kept : (dir : List ℕ) (done : List Entry) (left : List (List (List ℕ))) (bytes : List ℕ) (files : Files) → length left ≤ 64 → HoldLists dir left files →
    Spells bytes done → IsKept dir done left (insert files (list_path dir) (new_file bytes))
one_kept dir done left bytes files few holds spells =
    let put = put_one files (list_path dir) (new_file bytes) in
    record {
      list = (bytes, subst (HoldsFile bytes) (sym put.here) (record { is_file = refl; same = refl }), spells);
      ranks = λ rank lt. let held = holds rank lt in
          record {
            bytes = held.bytes;
            file = subst (HoldsFile held.bytes) (sym (put.others (file_path dir rank) (file_differs dir rank (omega (arith, lt, few))))) held.file;
            spells = held.spells;
          };
    }

pub all_kept : (dir path : List ℕ) (done : List Entry) (left : List (List (List ℕ))) (mid new : Option Files) → path ≡ list_path dir → length left ≤ 64 →
    IfSome mid (HoldLists dir left) → Saved (output_of (Some path) done) mid new → IfSome new (IsKept dir done left)
all_kept dir path done left None None is few holds saved = tt
all_kept dir path done left None (Some after) is few holds saved = absurd (false≢true (sym (ap is_some saved.2 ∙ saved.1.0)))
all_kept dir path done left (Some files) new is few holds saved =
    let put = saved.1.1 in
    let made : new ≡ Some (insert files (list_path dir) (new_file put.0)) =
    saved.2 ∙ put.3 ∙ ap (λ p. Some (insert files p (new_file put.0))) is in
    subst (λ o. IfSome o (IsKept dir done left)) (sym made) (one_kept dir done left put.0 files few holds (record { version = Two; spells = put.1 }))

-- and it holds its entries in version 2
pub all_newest : (dir path : List ℕ) (done : List Entry) (mid new : Option Files) → path ≡ list_path dir → Saved (output_of (Some path) done) mid new →
    IfSome new (HoldsNewest (list_path dir) done)
all_newest dir path done None None is saved = tt
all_newest dir path done None (Some after) is saved = absurd (false≢true (sym (ap is_some saved.2 ∙ saved.1.0)))
all_newest dir path done (Some files) new is saved =
    let put = saved.1.1 in
    let made : new ≡ Some (insert files (list_path dir) (new_file put.0)) =
    saved.2 ∙ put.3 ∙ ap (λ p. Some (insert files p (new_file put.0))) is in
    let here = put_one files (list_path dir) (new_file put.0) in
    subst (λ o. IfSome o (HoldsNewest (list_path dir) done)) (sym made)
    (put.0, subst (HoldsFile put.0) (sym here.here) (record { is_file = refl; same = refl }), put.1)

-- ---- what is as before

-- what is told of none of some paths in a row is told of each not to be so
none_at : (p : List ℕ → Bool) (f : ℕ → List ℕ) (a n : ℕ) → list_any p (map f (range_with_len a n)) ≡ false → (k : ℕ) → k < n → p (f (a + k)) ≡ false
none_at p f a zero off k lt = absurd (omega (arith, lt))
none_at p f a (suc n) off zero lt = ap (λ i. p (f i)) (add-zero a) ∙ (or_parts (p (f a)) (list_any p (map f (range_with_len (a + 1) n))) off).0
none_at p f a (suc n) off (suc k) lt =
    let later = none_at p f (a + 1) n (or_parts (p (f a)) (list_any p (map f (range_with_len (a + 1) n))) off).1 k (omega (arith, lt)) in
    let same : a + suc k ≡ a + 1 + k = omega arith in
    ap (λ i. p (f i)) same ∙ later

-- what the writing of the ranks' files and then of the list file leaves
pub record WroteRanks (dir : List ℕ) (ranks : ℕ) (old new : Option Files) : Type 0 where
  pub tells : is_some new ≡ is_some old
  pub rest : IfSome old (λ files. IfSome new (SameButFiles dir ranks files))

ranks_same : (dir : List ℕ) (ranks : ℕ) (old new : Files) → SameButFiles dir ranks old new → SameButAll (checkpoint_paths dir ranks) old new
ranks_same dir ranks old new same q off =
    let others = (or_parts (pointwise nat_eq q (list_path dir)) (list_any (pointwise nat_eq q) (map (file_path dir) (range_with_len 0 ranks))) off).1 in
    let none = none_at (pointwise nat_eq q) (file_path dir) 0 ranks others in
    same q (λ rank lt. ap (λ k. pointwise nat_eq q (file_path dir k)) (sym (zero-add rank)) ∙ none rank lt)

pub ranks_rest : (dir : List ℕ) (ranks : ℕ) (old new : Option Files) → IfSome old (λ files. IfSome new (SameButFiles dir ranks files)) →
    IfSome old (λ files. IfSome new (SameButAll (checkpoint_paths dir ranks) files))
ranks_rest dir ranks None new rest = tt
ranks_rest dir ranks (Some old) None rest = tt
ranks_rest dir ranks (Some old) (Some new) rest = ranks_same dir ranks old new rest

both_same : (dir : List ℕ) (ranks : ℕ) (old mid new : Files) → SameButFiles dir ranks old mid → SameButAll (list_path dir ∷ []) mid new →
    SameButAll (checkpoint_paths dir ranks) old new
both_same dir ranks old mid new first second q off =
    let here = (or_parts (pointwise nat_eq q (list_path dir)) (list_any (pointwise nat_eq q) (map (file_path dir) (range_with_len 0 ranks))) off).0 in
    second q (λ i. here i || false) ∙ ranks_same dir ranks old mid first q off

pub all_rest : (dir path : List ℕ) (ranks : ℕ) (old mid new : Option Files) → path ≡ list_path dir → WroteRanks dir ranks old mid →
    SameButOutputs (path ∷ []) mid new → IfSome old (λ files. IfSome new (SameButAll (checkpoint_paths dir ranks) files))
all_rest dir path ranks None mid new is wrote rest = tt
all_rest dir path ranks (Some old) None new is wrote rest = absurd (false≢true wrote.tells)
all_rest dir path ranks (Some old) (Some mid) None is wrote rest = tt
all_rest dir path ranks (Some old) (Some mid) (Some new) is wrote rest =
    both_same dir ranks old mid new wrote.rest (subst (λ p. SameButAll (p ∷ []) mid new) is rest.1)

-- the removal of the old list file, and what came after it
gone_same : (dir : List ℕ) (ranks : ℕ) (old mid new : Files) → IsGone (list_path dir) old mid → SameButAll (checkpoint_paths dir ranks) mid new →
    SameButAll (checkpoint_paths dir ranks) old new
gone_same dir ranks old mid new gone later q off =
    let here = (or_parts (pointwise nat_eq q (list_path dir)) (list_any (pointwise nat_eq q) (map (file_path dir) (range_with_len 0 ranks))) off).0 in
    later q off ∙ gone.others q here

pub cleared_rest : (dir : List ℕ) (ranks : ℕ) (before between : Side) (new : Option Files) → IsCleared dir before between →
    IfSome between.tree (λ files. IfSome new (SameButAll (checkpoint_paths dir ranks) files)) →
    IfSome before.tree (λ files. IfSome new (SameButAll (checkpoint_paths dir ranks) files))
cleared_rest dir ranks before between new cleared later = by before.tree between.tree new cleared.tells cleared.gone later
  where
    by : (old mid new : Option Files) → is_some mid ≡ is_some old → IfSome old (λ files. IfSome mid (IsGone (list_path dir) files)) →
        IfSome mid (λ files. IfSome new (SameButAll (checkpoint_paths dir ranks) files)) →
        IfSome old (λ files. IfSome new (SameButAll (checkpoint_paths dir ranks) files))
    by None mid new tells gone later = tt
    by (Some old) None new tells gone later = absurd (false≢true tells)
    by (Some old) (Some mid) None tells gone later = tt
    by (Some old) (Some mid) (Some new) tells gone later = gone_same dir ranks old mid new gone later

-- ---- what is torn

list_only : (dir : List ℕ) (ranks : ℕ) (old new : Files) → SameBut (list_path dir) old new → SameButAll (checkpoint_paths dir ranks) old new
list_only dir ranks old new same q off =
    same q (or_parts (pointwise nat_eq q (list_path dir)) (list_any (pointwise nat_eq q) (map (file_path dir) (range_with_len 0 ranks))) off).0

-- the old list file was not removed
pub kept_rest : (dir : List ℕ) (ranks : ℕ) (old new : Option Files) → IfSome old (λ files. IfSome new (SameBut (list_path dir) files)) →
    IfSome old (λ files. IfSome new (SameButAll (checkpoint_paths dir ranks) files))
kept_rest dir ranks None new same = tt
kept_rest dir ranks (Some old) None same = tt
kept_rest dir ranks (Some old) (Some new) same = list_only dir ranks old new same

pub kept_torn : (dir : List ℕ) (left : List (List (List ℕ))) (old new : Option Files) → IfSome old (λ files. IfSome new (SameBut (list_path dir) files)) →
    IfSome old (λ files. IfSome new (IsTorn dir left files))
kept_torn dir left None new same = tt
kept_torn dir left (Some old) None same = tt
kept_torn dir left (Some old) (Some new) same = inr (inr (inl same))

pub still_torn : (dir : List ℕ) (left : List (List (List ℕ))) (tree : Option Files) → IfSome tree (λ files. IfSome tree (IsTorn dir left files))
still_torn dir left None = tt
still_torn dir left (Some files) = inr (inr (inl (λ q off. refl)))

-- the ranks' files were not all written
ranks_off : (dir : List ℕ) (left : List (List (List ℕ))) (ranks : ℕ) (old mid new : Files) → ranks ≤ 64 → IsGone (list_path dir) old mid →
    SameButFiles dir ranks mid new → IsTorn dir left old new
ranks_off dir left ranks old mid new few gone later =
    let here : get new (list_path dir) ≡ get mid (list_path dir) = later (list_path dir) (λ rank lt. list_differs dir rank (omega (arith, lt, few))) in
    by_gone gone.gone here
  where
    by_gone : (get mid (list_path dir) ≡ None) ⊎ ((is_dir (get old (list_path dir)) ≡ true) × (mid ≡ old)) →
        get new (list_path dir) ≡ get mid (list_path dir) → IsTorn dir left old new
    by_gone (inl none) here = inl (here ∙ none)
    by_gone (inr stays) here = inr (inl (ap is_dir (here ∙ ap (λ files. get files (list_path dir)) stays.1) ∙ stays.0))

pub ranks_torn : (dir : List ℕ) (left : List (List (List ℕ))) (ranks : ℕ) (before between : Side) (new : Option Files) → ranks ≤ 64 →
    IsCleared dir before between → IfSome between.tree (λ files. IfSome new (SameButFiles dir ranks files)) →
    IfSome before.tree (λ files. IfSome new (IsTorn dir left files))
ranks_torn dir left ranks before between new few cleared later = by before.tree between.tree new cleared.tells cleared.gone later
  where
    by : (old mid new : Option Files) → is_some mid ≡ is_some old → IfSome old (λ files. IfSome mid (IsGone (list_path dir) files)) →
        IfSome mid (λ files. IfSome new (SameButFiles dir ranks files)) → IfSome old (λ files. IfSome new (IsTorn dir left files))
    by None mid new tells gone later = tt
    by (Some old) None new tells gone later = absurd (false≢true tells)
    by (Some old) (Some mid) None tells gone later = tt
    by (Some old) (Some mid) (Some new) tells gone later = ranks_off dir left ranks old mid new few gone later

-- they were, and the list file was not
held_still : (dir path : List ℕ) (left : List (List (List ℕ))) (mid new : Files) → path ≡ list_path dir → length left ≤ 64 → HoldLists dir left mid →
    SameButAll (path ∷ []) mid new → HoldLists dir left new
held_still dir path left mid new is few holds same rank lt =
    let held = holds rank lt in
    let differs = ap (λ p. pointwise nat_eq (file_path dir rank) p) is ∙ file_differs dir rank (omega (arith, lt, few)) in
    record {
      bytes = held.bytes;
      file = subst (HoldsFile held.bytes) (sym (same (file_path dir rank) (ap (λ b. b || false) differs))) held.file;
      spells = held.spells;
    }

pub list_torn : (dir path : List ℕ) (left : List (List (List ℕ))) (old mid new : Option Files) → path ≡ list_path dir → length left ≤ 64 →
    IfSome mid (HoldLists dir left) → SameButOutputs (path ∷ []) mid new → is_some mid ≡ is_some old →
    IfSome old (λ files. IfSome new (IsTorn dir left files))
list_torn dir path left None mid new is few holds same tells = tt
list_torn dir path left (Some old) None new is few holds same tells = absurd (false≢true tells)
list_torn dir path left (Some old) (Some mid) None is few holds same tells = tt
list_torn dir path left (Some old) (Some mid) (Some new) is few holds same tells = inr (inr (inr (held_still dir path left mid new is few holds same.1)))

-- ---- the path of the list file

pub named_at : {found : Option (List ℕ)} {path : List ℕ} (dir : List ℕ) → found ≡ Some path →
    IfSome found (λ path. (path ≡ list_path dir) × (length (list_path dir) ≤ 4095)) → path ≡ list_path dir
named_at dir is some = (subst (λ o. IfSome o (λ path. (path ≡ list_path dir) × (length (list_path dir) ≤ 4095))) is some).0

pub cleared_by : (dir path : List ℕ) (before between : Side) → path ≡ list_path dir → is_some between.tree ≡ is_some before.tree →
    before.count ≤ between.count → IfSome before.tree (λ files. IfSome between.tree (IsGone path files)) → IsCleared dir before between
cleared_by dir path before between is tells kept gone = record {
  tells = tells;
  gone = subst (λ p. IfSome before.tree (λ files. IfSome between.tree (IsGone p files))) is gone;
  kept = kept;
}
