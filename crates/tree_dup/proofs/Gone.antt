-- A reader goes over the files of a run.
use Rattle.tree_dup.proofs.Prelude.{◌≡◌, ℕ, ◌<◌, true, List, length, get_or, set, Option, refl, sym, ap, subst, ◌∙◌, arith, false≢true, get_or_default}
use Rattle.tree_dup.proofs.Prelude.{get_or-set_same, get_or-set_other, All-set, sum_by-set, map-set_same, dite, ℕ_discrete, Asks, RoseBy, Files, Missing}
use Rattle.tree_dup.proofs.Prelude.{Failed, Changed, keeps_still, keeps_on, File, Standing, Alike, Other, Missed, KeepsUp, Moved, Went, Shows, StandingShows}
use Rattle.tree_dup.proofs.Prelude.{standing_alike, failures, failures_of, is_alike, still}
use Rattle.tree_dup.proofs.Classes.{same_length}

-- a fault is counted where a read failed
pub rose_keeps : (why : Missing) (old new : ℕ) → RoseBy 0 old new → (why ≡ Failed → RoseBy 1 old new) → KeepsUp 0 (failures_of (Missed why)) old new
rose_keeps Failed old new z one = let a = one refl in record { kept = omega (arith, z.kept); rose = λ h. omega (arith, a.rose) }
rose_keeps Changed old new z one = record { kept = omega (arith, z.kept); rose = λ h. omega (arith, z.kept) }

pub none_keeps : (n old new : ℕ) → RoseBy 0 old new → KeepsUp n n old new
none_keeps n old new z = record { kept = omega (arith, z.kept); rose = λ h. omega (arith, z.kept) }

alike_fails : (s : Standing) → standing_alike s ≡ true → failures_of s ≡ 0
alike_fails Alike e = refl
alike_fails _ e = absurd (false≢true e)

set_keeps_up : (was : ℕ) (files : List File) (k : ℕ) (x d : File) (old mid new : ℕ) → k < length files → KeepsUp was (failures files) old mid →
    KeepsUp (failures_of (get_or files k d).standing) (failures_of x.standing) mid new → KeepsUp was (failures (set files k x)) old new
set_keeps_up was files k x d old mid new inside f g =
    let sums = sum_by-set (λ (f : File). failures_of f.standing) files k x d inside in
    let a = f.kept in
    let b = g.kept in
    let r = f.rose in
    let s = g.rose in
    record { kept = omega arith; rose = λ h. let r' = r (omega arith) in let s' = s h in omega (arith, sums) }

module _ {R : Type 0} (tree : R → Option Files) (count : R → ℕ) (gives : Asks R) where
  pub went_nowhere : (r : R) (files : List File) → Went tree count gives r r files files
  went_nowhere r files = record {
    same = refl;
    files = refl;
    counted = keeps_still (failures files) (count r);
    shows = λ h. h;
    idle = λ k d l e. refl;
  }

  pub went_on : (r r' r'' : R) (xs ys zs : List File) → Went tree count gives r r' xs ys → Went tree count gives r' r'' ys zs →
      Went tree count gives r r'' xs zs
  went_on r r' r'' xs ys zs f g = record {
    same = g.same ∙ f.same;
    files = g.files ∙ f.files;
    counted = keeps_on _ _ _ _ _ _ f.counted g.counted;
    shows = λ h. g.shows (f.shows h);
    idle = λ k d l e.
        let there = f.idle k d l e in
        g.idle k d (omega (arith, same_length xs ys f.files)) (ap is_alike there ∙ e) ∙ there;
  }

  -- one file was read
  pub went_set : (r r' r'' : R) (xs ys : List File) (k : ℕ) (f d : File) → k < length ys → Went tree count gives r r' xs ys →
      Moved tree count gives r' r'' (get_or ys k d) f → Went tree count gives r r'' xs (set ys k f)
  went_set r r' r'' xs ys k f d inside w m = record {
    same = m.same ∙ w.same;
    files = map-set_same still ys k f d m.file ∙ w.files;
    counted = set_keeps_up (failures xs) ys k f d (count r) (count r') (count r'') inside w.counted m.counted;
    shows = λ h. All-set (Shows gives) ys k f (m.shows (w.shows h k d inside)) (w.shows h);
    idle = λ j e l still_not.
        let there = w.idle j e l still_not in
        dite (ℕ_discrete j k)
        (λ same.
        let here : get_or ys k d ≡ get_or xs j e = get_or_default ys k d e inside ∙ ap (λ i. get_or ys i e) (sym same) ∙ there in
        ap (λ i. get_or (set ys k f) i e) same ∙ get_or-set_same ys k f e inside ∙ m.idle (ap is_alike here ∙ still_not) ∙ here)
        (λ other. get_or-set_other ys k j f e other ∙ there);
  }

  -- a file was not asked for
  pub moved_none : (r : R) (f : File) → Moved tree count gives r r f f
  moved_none r f = record { same = refl; file = refl; counted = keeps_still (failures_of f.standing) (count r); shows = λ h. h; idle = λ e. refl }

  -- a file was read
  pub moved_read : (r r' : R) (f : File) → tree r' ≡ tree r → RoseBy 0 (count r) (count r') → Moved tree count gives r r' f f
  moved_read r r' f e z =
      record { same = e; file = refl; counted = none_keeps (failures_of f.standing) (count r) (count r') z; shows = λ h. h; idle = λ e. refl }

  -- and has another standing now
  pub moved_to : (r r' : R) (f : File) (s : Standing) → is_alike f ≡ true → tree r' ≡ tree r → KeepsUp 0 (failures_of s) (count r) (count r') →
      StandingShows gives f.path s → Moved tree count gives r r' f (record f { standing = s })
  moved_to r r' f s a e k shows = record {
    same = e;
    file = refl;
    counted = subst (λ n. KeepsUp n (failures_of s) (count r) (count r')) (sym (alike_fails f.standing a)) k;
    shows = λ h. shows;
    idle = λ not. absurd (false≢true (sym not ∙ a));
  }
