-- A run whose files were compared: those that have the bytes of the lead, those that have others, and those that were missed.
use Rattle.tree_dup.proofs.Prelude.{◌≡◌, ℕ, zero, suc, ◌+◌, ◌<◌, ◌≤◌, Bool, true, false, cond, List, [], ◌∷◌, ◌++◌, length, map, filter, get_or, Option, Some}
use Rattle.tree_dup.proofs.Prelude.{None, IfSome, All, IsPermutation, IsSorted, refl, sym, ap, subst, ◌∙◌, arith, eqb, length-append, get, pointwise}
use Rattle.tree_dup.proofs.Prelude.{false≢true, get_or_default, get_or-map, length-map, All-nil, All-head, All-tail, All-append, All-filter, All-map}
use Rattle.tree_dup.proofs.Prelude.{filter_passes, count_by-le-length, length-filter, sum_by-cons, All-permutation, path_cmp, Asks, Files, content, Entry, Told}
use Rattle.tree_dup.proofs.Prelude.{Grouping, ShowsFailure, ShowsChange, has, is_read, is_sized, HaveCauses, ShowsWhole, AreWhole, Failed, Changed, Standing}
use Rattle.tree_dup.proofs.Prelude.{Alike, Other, Missed, File, IsWhole, AreDealt, times, HasContent, standing_alike, standing_other, standing_failed}
use Rattle.tree_dup.proofs.Prelude.{standing_changed, is_alike, is_other, is_failed, is_changed, KeepsUp, still, paths_of, IsThere, Stands, StandsTo}
use Rattle.tree_dup.proofs.Prelude.{AreSettled, Shows, StandingShows, failures, failures_of, IsHashed, IsMade, HaveBytes, AreMissed, misses, piles_of}
use Rattle.tree_dup.proofs.Piled.{one_if, times-cons, times-append, times-permutation, have}
use Rattle.tree_dup.proofs.Parted.{AreParted, Differ, parted_divided}
use Rattle.tree_dup.proofs.Sifted.{path_of}

-- ---- by the standing of a file

alike_stands : (s : Standing) (bytes lead : List ℕ) → standing_alike s ≡ true → Stands s bytes lead → bytes ≡ lead
alike_stands Alike bytes lead e h = h
alike_stands _ bytes lead e h = absurd (false≢true e)

other_stands : (s : Standing) (bytes lead : List ℕ) → standing_other s ≡ true → Stands s bytes lead → bytes ≡ lead → ⊥
other_stands Other bytes lead e h = h
other_stands _ bytes lead e h = absurd (false≢true e)

changed_stands : (s : Standing) (bytes lead : List ℕ) → standing_changed s ≡ true → Stands s bytes lead → ⊥
changed_stands (Missed Changed) bytes lead e h = h
changed_stands _ bytes lead e h = absurd (false≢true e)

filtered_times : (p : List ℕ) (test : File → Bool) (b : Bool) (f : File) (run : List File) → test f ≡ b →
    times p (paths_of (filter test (f ∷ run))) ≡ cond b (one_if (pointwise eqb p f.path)) 0 + times p (paths_of (filter test run))
filtered_times p test true f run e =
    ap (λ (c : Bool). times p (paths_of (cond c (f ∷ filter test run) (filter test run)))) e ∙ times-cons p f.path (paths_of (filter test run))
filtered_times p test false f run e =
    ap (λ (c : Bool). times p (paths_of (cond c (f ∷ filter test run) (filter test run)))) e
    ∙ (let none : times p (paths_of (filter test run)) ≡ 0 + times p (paths_of (filter test run)) = omega arith in none)

one_part : (s : Standing) (n : ℕ) →
    cond (standing_alike s) n 0 + cond (standing_other s) n 0 + (cond (standing_failed s) n 0 + cond (standing_changed s) n 0) ≡ n
one_part (Missed Changed) n = omega arith
one_part _ n = omega arith

-- each file of a run goes to one part
dealt_times : (p : List ℕ) (run : List File) →
    times p (paths_of (filter is_alike run)) + times p (paths_of (filter is_other run))
    + (times p (paths_of (filter is_failed run)) + times p (paths_of (filter is_changed run))) ≡ times p (paths_of run)
dealt_times p [] = refl
dealt_times p (f ∷ run) = by f.standing refl (dealt_times p run)
  where
    by : (s : Standing) → f.standing ≡ s →
        times p (paths_of (filter is_alike run)) + times p (paths_of (filter is_other run))
        + (times p (paths_of (filter is_failed run)) + times p (paths_of (filter is_changed run))) ≡ times p (paths_of run) →
        times p (paths_of (filter is_alike (f ∷ run))) + times p (paths_of (filter is_other (f ∷ run)))
        + (times p (paths_of (filter is_failed (f ∷ run))) + times p (paths_of (filter is_changed (f ∷ run)))) ≡ times p (paths_of (f ∷ run))
    by s e rest = omega (
      arith,
      filtered_times p is_alike (standing_alike s) f run (ap standing_alike e),
      filtered_times p is_other (standing_other s) f run (ap standing_other e),
      filtered_times p is_failed (standing_failed s) f run (ap standing_failed e),
      filtered_times p is_changed (standing_changed s) f run (ap standing_changed e),
      one_part s (one_if (pointwise eqb p f.path)),
      times-cons p f.path (paths_of run),
      rest,
    )

-- ---- files whose standings alone changed

paths_still : (files : List File) → paths_of (map still files) ≡ paths_of files
paths_still [] = refl
paths_still (f ∷ files) = ap (λ ps. f.path ∷ ps) (paths_still files)

pub same_paths : (files files' : List File) → map still files' ≡ map still files → paths_of files' ≡ paths_of files
same_paths files files' e = sym (paths_still files') ∙ ap paths_of e ∙ paths_still files

pub same_length : (files files' : List File) → map still files' ≡ map still files → length files' ≡ length files
same_length files files' e = sym (length-map files' still) ∙ ap length e ∙ length-map files still

-- what is so of a file whatever its standing is
pub all_still : (P : File → Type 0) → ((f : File) → P f → P (still f)) → ((f : File) → P (still f) → P f) → (files files' : List File) →
    map still files' ≡ map still files → All P files → All P files'
all_still P to from files files' e h k d l =
    let inside : k < length files = omega (arith, same_length files files' e) in
    from (get_or files' k d) (subst P
    (sym (get_or-map still files k d (still d) inside) ∙ ap (λ (xs : List File). get_or xs k (still d)) (sym e) ∙ get_or-map still files' k d (still d) l)
    (to (get_or files k d) (h k d inside)))

pub hashed_still : (tree : Option Files) (list : List Entry) (files files' : List File) → map still files' ≡ map still files →
    All (IsHashed tree list) files → All (IsHashed tree list) files'
hashed_still tree list files files' = all_still (IsHashed tree list)
    (λ f h. record { sized = h.sized; read = h.read; there = by tree f h.there; hash = h.hash })
    (λ f h. record { sized = h.sized; read = h.read; there = back tree f h.there; hash = h.hash }) files files'
  where
    by : (t : Option Files) (f : File) → IfSome t (λ files. IsThere files f) → IfSome t (λ files. IsThere files (still f))
    by None f h = tt
    by (Some t) f h = record { is_file = h.is_file; size = h.size }

    back : (t : Option Files) (f : File) → IfSome t (λ files. IsThere files (still f)) → IfSome t (λ files. IsThere files f)
    back None f h = tt
    back (Some t) f h = record { is_file = h.is_file; size = h.size }

pub content_still : (size hash : ℕ) (files files' : List File) → map still files' ≡ map still files →
    All (HasContent size hash) files → All (HasContent size hash) files'
content_still size hash = all_still (HasContent size hash) (λ f h. record { of_size = h.of_size; of_hash = h.of_hash }) (λ f h. record {
  of_size =
      h.of_size;
  of_hash = h.of_hash;
})

no_still : (test : File → Bool) → ((f : File) → test (still f) ≡ false) → (files : List File) → filter test (map still files) ≡ []
no_still test never [] = refl
no_still test never (f ∷ files) =
    ap (λ (c : Bool). cond c (still f ∷ filter test (map still files)) (filter test (map still files))) (never f) ∙ no_still test never files

-- ---- a run that was compared and dealt out

pub record IsClass (tree : Option Files) (size hash : ℕ) (digest : List ℕ) (run run' : List File) (paths : List (List ℕ)) (left : List File)
    (found found' : Grouping) : Type 0 where
  pub all : All (HasContent size hash) run
  pub alike : map still run ≡ run
  pub same : map still run' ≡ map still run
  pub empty : size ≡ 0 → run' ≡ run
  pub settled : IfSome tree (λ files. All (IsThere files) run → AreSettled files digest run')
  pub dealt : AreDealt run' paths left found found'

module _ (tree : Option Files) (list : List Entry) (size hash : ℕ) (digest : List ℕ) (run run' : List File) (paths : List (List ℕ)) (left : List File)
    (found found' : Grouping)
    (c : IsClass tree size hash digest run run' paths left found found') (hashed : All (IsHashed tree list) run) where
  hashed' : All (IsHashed tree list) run'
  hashed' = hashed_still tree list run run' c.same hashed

  content' : All (HasContent size hash) run'
  content' = content_still size hash run run' c.same c.all

  more_misses : (p : List ℕ) → misses found' p ≡ misses found p + (times p (paths_of (filter is_failed run')) + times p (paths_of (filter is_changed run')))
  more_misses p = omega (
    arith,
    ap (times p) c.dealt.failed,
    ap (times p) c.dealt.changed,
    times-append p found.failed (paths_of (filter is_failed run')),
    times-append p found.changed (paths_of (filter is_changed run')),
  )

  class_times : (p : List ℕ) → times p paths + times p (paths_of left) + misses found' p ≡ times p (paths_of run) + misses found p
  class_times p = omega (
    arith,
    more_misses p,
    ap (times p) c.dealt.alike,
    ap (λ (files : List File). times p (paths_of files)) c.dealt.others,
    ap (times p) (paths_still (filter is_other run')),
    ap (times p) (same_paths run run' c.same),
    dealt_times p run',
  )

  -- where the files tell their tree
  settled : (t : Files) → tree ≡ Some t → AreSettled t digest run'
  settled t e =
      let there : All (IsThere t) run = λ k d l. subst (λ o. IfSome o (λ files. IsThere files (get_or run k d))) e (hashed k d l).there in
      subst (λ o. IfSome o (λ files. All (IsThere files) run → AreSettled files digest run')) e c.settled there

  have_lead : (t : Files) (s : AreSettled t digest run') → All (λ p. content (get t p) ≡ s.lead) (paths_of (filter is_alike run'))
  have_lead t s = All-map (λ p. content (get t p) ≡ s.lead) path_of (filter is_alike run')
      (λ k d l. alike_stands (get_or (filter is_alike run') k d).standing (content (get t (get_or (filter is_alike run') k d).path)) s.lead
      (filter_passes is_alike run' k d l) (All-filter is_alike (StandsTo t s.lead) run' s.each k d l))

  have_others : (t : Files) (s : AreSettled t digest run') → All (λ p. content (get t p) ≡ s.lead → ⊥) (paths_of (filter is_other run'))
  have_others t s = All-map (λ p. content (get t p) ≡ s.lead → ⊥) path_of (filter is_other run')
      (λ k d l. other_stands (get_or (filter is_other run') k d).standing (content (get t (get_or (filter is_other run') k d).path)) s.lead
      (filter_passes is_other run' k d l) (All-filter is_other (StandsTo t s.lead) run' s.each k d l))

  class_differ : (sorted : List (List ℕ)) → IsPermutation paths sorted → (t : Files) → tree ≡ Some t → Differ t sorted (paths_of left)
  class_differ sorted moved t e p q m n same =
      let s = settled t e in
      let in_alike : 0 < times p (paths_of (filter is_alike run')) = omega (arith, times-permutation p paths sorted moved, ap (times p) c.dealt.alike) in
      let in_other : 0 < times q (paths_of (filter is_other run')) =
      omega (arith, ap (λ (files : List File). times q (paths_of files)) c.dealt.others, ap (times q) (paths_still (filter is_other run'))) in
      have (λ q. content (get t q) ≡ s.lead → ⊥) q (paths_of (filter is_other run')) (have_others t s) in_other
      (sym same ∙ have (λ p. content (get t p) ≡ s.lead) p (paths_of (filter is_alike run')) (have_lead t s) in_alike)

  pub class_parted : (others : List (List File)) (sorted : List (List ℕ)) → IsPermutation paths sorted →
      AreParted tree list (misses found) (piles_of found.groups ++ paths_of run ∷ map paths_of others) →
      AreParted tree list (misses found') (piles_of found.groups ++ sorted ∷ (paths_of left ∷ map paths_of others))
  class_parted others sorted moved =
      parted_divided tree list (misses found) (misses found') (piles_of found.groups) (paths_of run) sorted (paths_of left) (map paths_of others)
      (λ p. omega (arith, class_times p, times-permutation p paths sorted moved)) (λ p. omega (arith, more_misses p)) (by tree refl)
    where
      by : (o : Option Files) → tree ≡ o → IfSome o (λ t. Differ t sorted (paths_of left))
      by None e = tt
      by (Some t) e = class_differ sorted moved t e

  -- what was missed was to be read
  missed_read : (test : File → Bool) → ((f : File) → test (still f) ≡ false) → All (λ p. has (is_read list) list p ≡ true) (paths_of (filter test run'))
  missed_read test never = by size refl
    where
      by : (n : ℕ) → size ≡ n → All (λ p. has (is_read list) list p ≡ true) (paths_of (filter test run'))
      by zero e =
          let none : filter test run' ≡ [] = ap (filter test) (c.empty e ∙ sym c.alike) ∙ no_still test never run in
          subst (λ (files : List File). All (λ p. has (is_read list) list p ≡ true) (paths_of files)) (sym none) (All-nil (λ p. has
          (is_read list) list p ≡ true))
      by (suc n) e = All-map (λ p. has (is_read list) list p ≡ true) path_of (filter test run')
          (All-filter test (λ f. has (is_read list) list f.path ≡ true) run'
          (λ k d l. (hashed' k d l).read (let s = (content' k d l).of_size in omega (arith, s, e))))

  none_changed : (t : Files) (s : AreSettled t digest run') → filter is_changed run' ≡ []
  none_changed t s = by (filter is_changed run') (filter_passes is_changed run') (All-filter is_changed (StandsTo t s.lead) run' s.each)
    where
      by : (files : List File) → All (λ f. is_changed f ≡ true) files → All (StandsTo t s.lead) files → files ≡ []
      by [] h g = refl
      by (f ∷ files) h g = absurd (changed_stands f.standing (content (get t f.path)) s.lead
          (All-head (λ f. is_changed f ≡ true) f files h) (All-head (StandsTo t s.lead) f files g))

  pub class_missed : AreMissed tree list found → AreMissed tree list found'
  class_missed m = record {
    failed = subst (All (λ p. has (is_read list) list p ≡ true)) (sym c.dealt.failed)
        (All-append (λ p. has (is_read list) list p ≡ true) found.failed (paths_of (filter is_failed run')) m.failed (missed_read is_failed (λ f. refl)));
    changed = subst (All (λ p. has (is_read list) list p ≡ true)) (sym c.dealt.changed)
        (All-append (λ p. has (is_read list) list p ≡ true) found.changed (paths_of (filter is_changed run')) m.changed (missed_read is_changed (λ f. refl)));
    unchanged = by tree refl m.unchanged;
  }
    where
      by : (o : Option Files) → tree ≡ o → IfSome o (λ t. found.changed ≡ []) → IfSome o (λ t. found'.changed ≡ [])
      by None e h = tt
      by (Some t) e h = c.dealt.changed ∙ (λ i. h i ++ paths_of (none_changed t (settled t e) i))

  pub left_hashed : All (IsHashed tree list) left
  left_hashed = subst (All (IsHashed tree list)) (sym c.dealt.others)
      (hashed_still tree list (filter is_other run') (map still (filter is_other run')) (twice (filter is_other run'))
      (All-filter is_other (IsHashed tree list) run' hashed'))
    where
      twice : (files : List File) → map still (map still files) ≡ map still files
      twice [] = refl
      twice (f ∷ files) = ap (λ fs. still f ∷ fs) (twice files)

  -- a group of those that have the bytes of the lead
  class_told : (sorted : List (List ℕ)) → IsPermutation paths sorted → (t : Files) → tree ≡ Some t → HaveBytes t digest sorted
  class_told sorted moved t e =
      let s = settled t e in
      let same : All (λ p. content (get t p) ≡ s.lead) paths = subst (All (λ p. content (get t p) ≡ s.lead)) (sym c.dealt.alike) (have_lead t s) in
      record {
        bytes = s.lead;
        same = All-permutation (λ p. content (get t p) ≡ s.lead) paths sorted moved same;
        digest = s.digest_is;
      }

  pub class_made : (g : Told) → IsPermutation paths g.paths → IsSorted path_cmp g.paths → 2 ≤ length g.paths → g.size ≡ size → g.digest ≡ digest →
      IsMade tree list g
  class_made g moved up some sized has_digest = record {
    some = some;
    sorted = up;
    sizes = All-permutation (λ p. has (is_sized g.size) list p ≡ true) paths g.paths moved
        (subst (All (λ p. has (is_sized g.size) list p ≡ true)) (sym c.dealt.alike)
        (All-map (λ p. has (is_sized g.size) list p ≡ true) path_of (filter is_alike run')
        (All-filter is_alike (λ f. has (is_sized g.size) list f.path ≡ true) run'
        (λ k d l. subst (λ n. has (is_sized n) list (get_or run' k d).path ≡ true) ((content' k d l).of_size ∙ sym sized) (hashed' k d l).sized))));
    told = by tree refl;
  }
    where
      by : (o : Option Files) → tree ≡ o → IfSome o (λ t. HaveBytes t g.digest g.paths)
      by None e = tt
      by (Some t) e = subst (λ d. HaveBytes t d g.paths) (sym has_digest) (class_told g.paths moved t e)

-- ---- what else is so of a class

twice_still : (files : List File) → map still (map still files) ≡ map still files
twice_still [] = refl
twice_still (f ∷ files) = ap (λ fs. still f ∷ fs) (twice_still files)

pub left_alike : (run : List File) (paths : List (List ℕ)) (left : List File) (found found' : Grouping) → AreDealt run paths left found found' →
    map still left ≡ left
left_alike run paths left found found' d =
    subst (λ fs. map still fs ≡ fs) (sym d.others) (twice_still (filter is_other run))

pub left_content : (size hash : ℕ) (run run' : List File) (paths : List (List ℕ)) (left : List File) (found found' : Grouping) →
    map still run' ≡ map still run → All (HasContent size hash) run → AreDealt run' paths left found found' → All (HasContent size hash) left
left_content size hash run run' paths left found found' e h d =
    subst (All (HasContent size hash)) (sym d.others)
    (content_still size hash (filter is_other run') (map still (filter is_other run')) (twice_still (filter is_other run'))
    (All-filter is_other (HasContent size hash) run' (content_still size hash run run' e h)))

pub left_fewer : (run run' : List File) (paths : List (List ℕ)) (left : List File) (found found' : Grouping) (d : File) → map still run' ≡ map still run →
    0 < length run → is_other (get_or run' 0 d) ≡ false → AreDealt run' paths left found found' → length left < length run
left_fewer run run' paths left found found' d e some front dealt =
    omega (
      arith,
      same_length run run' e,
      ap length dealt.others,
      length-map (filter is_other run') still,
      by run' (omega (arith, same_length run run' e)) front,
    )
  where
    by : (files : List File) → 0 < length files → is_other (get_or files 0 d) ≡ false → length (filter is_other files) < length files
    by [] l f = absurd (omega arith)
    by (x ∷ files) l f =
        let skip : filter is_other (x ∷ files) ≡ filter is_other files =
        ap (λ (c : Bool). cond c (x ∷ filter is_other files) (filter is_other files)) f in
        omega (arith, ap length skip, length-filter is_other files, count_by-le-length is_other files)

pub none_fails : (files : List File) → failures (map still files) ≡ 0
none_fails [] = refl
none_fails (f ∷ files) =
    omega (arith, sum_by-cons (λ (x : File). failures_of x.standing) (still f) (map still files), none_fails files)

-- the faults that were counted for a class are those of the files that failed
pub class_counted : (m : ℕ) (run' : List File) (paths : List (List ℕ)) (left : List File) (found found' : Grouping) (old new : ℕ) →
    AreDealt run' paths left found found' → KeepsUp m (failures run') old new → KeepsUp (length found.failed + m) (length found'.failed) old new
class_counted m run' paths left found found' old new d k =
    let more : length found'.failed ≡ length found.failed + failures run' =
    ap length d.failed ∙ length-append found.failed (paths_of (filter is_failed run'))
    ∙ ap (λ n. length found.failed + n) (length-map (filter is_failed run') path_of ∙ length-filter is_failed run') in
    record { kept = k.kept; rose = λ h. (let r = k.rose h in omega (arith, r, more)) }

failed_shows : {S : Type 0} (gives : Asks S) (path : List ℕ) (s : Standing) → standing_failed s ≡ true → StandingShows gives path s → ShowsFailure gives path
failed_shows gives path (Missed Failed) e h = h
failed_shows gives path _ e h = absurd (false≢true e)

changed_shows : {S : Type 0} (gives : Asks S) (path : List ℕ) (s : Standing) → standing_changed s ≡ true → StandingShows gives path s → ShowsChange gives path
changed_shows gives path (Missed Changed) e h = h
changed_shows gives path _ e h = absurd (false≢true e)

pub alike_shows : {S : Type 0} (gives : Asks S) (run : List File) → map still run ≡ run → All (Shows gives) run
alike_shows gives run e k d l =
    let at : get_or run k d ≡ still (get_or run k d) =
    get_or_default run k d (still d) l ∙ sym (ap (λ (xs : List File). get_or xs k (still d)) e) ∙ get_or-map still run k d (still d) l in
    subst (Shows gives) (sym at) tt

pub class_causes : {S : Type 0} (gives : Asks S) (run' : List File) (paths : List (List ℕ)) (left : List File) (found found' : Grouping) →
    All (Shows gives) run' → AreDealt run' paths left found found' → HaveCauses gives found → HaveCauses gives found'
class_causes gives run' paths left found found' all d h =
    record {
      failed = subst (All (ShowsFailure gives)) (sym d.failed) (All-append (ShowsFailure gives) found.failed (paths_of (filter is_failed run')) h.failed
          (All-map (ShowsFailure gives) path_of (filter is_failed run')
          (λ k d l. failed_shows gives (get_or (filter is_failed run') k d).path (get_or (filter is_failed run') k d).standing
          (filter_passes is_failed run' k d l) (All-filter is_failed (Shows gives) run' all k d l))));
      changed = subst (All (ShowsChange gives)) (sym d.changed) (All-append (ShowsChange gives) found.changed (paths_of (filter is_changed run')) h.changed
          (All-map (ShowsChange gives) path_of (filter is_changed run')
          (λ k d l. changed_shows gives (get_or (filter is_changed run') k d).path (get_or (filter is_changed run') k d).standing
          (filter_passes is_changed run' k d l) (All-filter is_changed (Shows gives) run' all k d l))));
      whole = subst (All (AreWhole gives)) (sym d.groups) h.whole;
    }

-- ---- files that were read whole

whole_still : {S : Type 0} (gives : Asks S) (files files' : List File) → map still files' ≡ map still files → All (IsWhole gives) files →
    All (IsWhole gives) files'
whole_still gives = all_still (IsWhole gives) (λ f h. h) (λ f h. h)

pub left_whole : {S : Type 0} (gives : Asks S) (run run' : List File) (paths : List (List ℕ)) (left : List File) (found found' : Grouping) →
    map still run' ≡ map still run → All (IsWhole gives) run → AreDealt run' paths left found found' → All (IsWhole gives) left
left_whole gives run run' paths left found found' e h d =
    subst (All (IsWhole gives)) (sym d.others)
    (whole_still gives (filter is_other run') (map still (filter is_other run')) (twice_still (filter is_other run'))
    (All-filter is_other (IsWhole gives) run' (whole_still gives run run' e h)))

-- those of a group
pub class_whole : {S : Type 0} (gives : Asks S) (size : ℕ) (run run' : List File) (paths sorted : List (List ℕ)) (left : List File)
    (found found' : Grouping) → map still run' ≡ map still run → All (λ f. f.size ≡ size) run → All (IsWhole gives) run →
    AreDealt run' paths left found found' → IsPermutation paths sorted → 0 < size → All (ShowsWhole gives size) sorted
class_whole gives size run run' paths sorted left found found' e sizes h d moved some =
    All-permutation (ShowsWhole gives size) paths sorted moved
    (subst (All (ShowsWhole gives size)) (sym d.alike)
    (All-map (ShowsWhole gives size) path_of (filter is_alike run') (All-filter is_alike (λ f. ShowsWhole gives size f.path) run' each)))
  where
    each : All (λ f. ShowsWhole gives size f.path) run'
    each k x l =
        let f : File = get_or run' k x in
        let of_size : f.size ≡ size = all_still (λ f. f.size ≡ size) (λ f h. h) (λ f h. h) run run' e sizes k x l in
        subst (λ n. ShowsWhole gives n f.path) of_size (whole_still gives run run' e h k x l (omega (arith, of_size, some)))

pub still_alike : (files : List File) → map still files ≡ files → All (λ f. f.standing ≡ Alike) files
still_alike files e k d l =
    ap (λ (f : File). f.standing) (sym (sym (get_or-map still files k d (still d) l) ∙ ap (λ (xs : List File). get_or xs k (still d)) e
    ∙ get_or_default files k (still d) d l))

pub alike_still : (files : List File) → All (λ f. f.standing ≡ Alike) files → map still files ≡ files
alike_still [] h = refl
alike_still (f ∷ files) h =
    λ i. record f { standing = sym (All-head (λ f. f.standing ≡ Alike) f files h) i } ∷ alike_still files (All-tail (λ f. f.standing ≡ Alike) f files h) i

-- files in another order are as they were before their runs are read
pub alike_moved : (files files' : List File) → IsPermutation files files' → map still files ≡ files → map still files' ≡ files'
alike_moved files files' moved e =
    alike_still files' (All-permutation (λ f. f.standing ≡ Alike) files files' moved (still_alike files e))
