-- A folder holds one checkpoint, and where nothing stands against it only want of memory stops reading and writing.
use Rattle.checkpoints.proofs.Prelude.{◌≡◌, ◌⊎◌, inl, inr, ℕ, ◌+◌, ◌<◌, ◌≤◌, zero, suc, Bool, true, false, not, ◌&&◌, ◌||◌, List, [], ◌∷◌, ◌++◌, map, length}
use Rattle.checkpoints.proofs.Prelude.{Option, Some, None, refl, ap, sym, ◌∙◌, subst, arith, add-zero, zero-add, IfSome, is_some, is_none, nat_eq}
use Rattle.checkpoints.proofs.Prelude.{AllByRecursion, flat_map, range_with_len, get, pointwise, false≢true, recursion_from_All, All-from_recursion, refusal}
use Rattle.checkpoints.proofs.Prelude.{parent_of, Files, Node, is_file, is_dir, is_root, StoodStill, HoldsFile, can_save, Entry, Spells, SpellsOne}
use Rattle.checkpoints.proofs.Prelude.{RefusesExactly, IsRefused, IsTooLong, ListsError, file_path, AllFit, HoldsList, HoldLists, Reached, SameButFiles}
use Rattle.checkpoints.proofs.Prelude.{StopsReadingAt, StopsWritingAt, ReadsBack, folder_differs, parent_of_file, input, Stop, Side, Output}
use Rattle.checkpoints.proofs.Prelude.{FinePlacesStopForMemory, output_of, StopsListing, list_path, checkpoint_paths, HoldsEntries, IsKept, is_misplaced}
use Rattle.checkpoints.proofs.Prelude.{ArePlaced, IsFirstMisplaced, stop_of_lists, HasNoRanks, HasMisplaced, IsGone, WroteNoRanks, WroteNoList, WroteTorn}
use Rattle.checkpoints.proofs.Prelude.{CheckpointsAreOne, IsFineKept, FineReadsStopForMemory, IsFree, FineWritesStopForMemory, no_fault}
use Rattle.circle_lists.specs.declared.errors.ListsError.TheVariants as error
use Rattle.circle_lists.specs.Spelling as circle
use Rattle.circle_lists.specs.Checkpoint as lists
use Rattle.run_report.specs.declared.stops.Trouble.TheVariants as trouble
use Rattle.run_report.specs.declared.stops.Stop.TheVariants as stop
use Rattle.checkpoints.proofs.Paths.{dir_differs, file_differs, list_differs, parent_of_list}

-- ---- counts and trees

-- what is so of files that tell their tree
of_told : (P : Files → Type 0) (tree : Option Files) (files : Files) → tree ≡ Some files → IfSome tree P → P files
of_told P tree files told h = subst (λ t. IfSome t P) told h

-- ---- one checkpoint

one_done : (path : List ℕ) (done others : List Entry) (files : Files) → SpellsOne →
    HoldsEntries path done files → HoldsEntries path others files → done ≡ others
one_done path done others files one list other =
    one.one_list list.0 done others list.2 (subst (λ b. Spells b others) (other.1.same ∙ sym list.1.same) other.2)

pub one_checkpoint : SpellsOne → ReadsBack → CheckpointsAreOne
one_checkpoint one back dir done others left rest files some any kept other =
    (one_done (list_path dir) done others files one kept.list other.list, back dir left rest files some any kept.ranks other.ranks)

-- ---- the list file of a fine checkpoint

-- the bytes of the file that is there spell the list
spelled : {dir : List ℕ} {done : List Entry} {left : List (List (List ℕ))} {files : Files} (bytes : List ℕ) → IsKept dir done left files →
    HoldsFile bytes (get files (list_path dir)) → Spells bytes done
spelled {dir} {done} bytes kept holds = subst (λ b. Spells b done) (kept.list.1.same ∙ sym holds.same) kept.list.2

same_path : (p q : List ℕ) → input p ≡ input q → p ≡ q
same_path p q e = cc

listing_for_memory : (dir : List ℕ) (done : List Entry) (left : List (List (List ℕ))) (files : Files) (before after : Side) (why : Stop) → RefusesExactly →
    before.tree ≡ Some files → StoodStill before.count after.count → IsFineKept dir done left files → StopsListing (input (list_path dir)) before after why →
    why ≡ stop.OutOfMemory
listing_for_memory dir done left files before after stop.OutOfMemory exact told stood f stops = refl
listing_for_memory dir done left files before after stop.Overlap exact told stood f stops = absurd stops
listing_for_memory dir done left files before after stop.NoDirectory exact told stood f stops = absurd stops
listing_for_memory dir done left files before after stop.TooMany exact told stood f stops =
    let path = list_path dir in
    let read = of_told (λ files. (bytes : List ℕ) × HoldsFile bytes (get files path) × IsTooLong bytes) before.tree files told stops in
    absurd (omega (arith, exact.long_list read.0 done (spelled read.0 f.kept read.1) read.2, f.few))
listing_for_memory dir done left files before after (stop.Stopped handled strings) exact told stood f stops = absurd stops
listing_for_memory dir done left files before after (stop.Damaged path line) exact told stood f stops =
    let at = of_told (λ files. (bytes : List ℕ) × HoldsFile bytes (get files path) × IsRefused bytes line) before.tree files told stops.told in
    let holds = subst (λ p. HoldsFile at.0 (get files p)) (sym (same_path (list_path dir) path stops.named)) at.1 in
    absurd (exact.no_damage at.0 done line (spelled at.0 f.kept holds) at.2.damaged)
listing_for_memory dir done left files before after (stop.ListFile trouble.Absent path) exact told stood f stops =
    let none = of_told (λ files. is_file (get files path) ≡ false) before.tree files told stops.told in
    let here = subst (λ p. is_file (get files p) ≡ true) (same_path (list_path dir) path stops.named) f.kept.list.1.is_file in
    absurd (false≢true (sym none ∙ here))
listing_for_memory dir done left files before after (stop.ListFile trouble.NoPlace path) exact told stood f stops = absurd stops
listing_for_memory dir done left files before after (stop.ListFile trouble.Fault path) exact told stood f stops =
    absurd (no_fault before.count after.count stops.counted stood)

-- ---- the ranks' files

-- the bytes of a file that holds a rank's list spell it
rank_spelled : {dir : List ℕ} {rank ranks : ℕ} {list : List (List ℕ)} {files : Files} (bytes : List ℕ) → HoldsList dir rank ranks list files →
    HoldsFile bytes (get files (file_path dir rank)) → circle.Spells bytes rank ranks list
rank_spelled {dir} {rank} {ranks} {list} bytes held holds = subst (λ b. circle.Spells b rank ranks list) (held.file.same ∙ sym holds.same) held.spells

-- a rank whose file is read is one of the checkpoint's, and so are the ranks that are known
record IsOne (rank : ℕ) (known : Option ℕ) (ranks : ℕ) : Type 0 where
  within : rank < ranks
  agrees : circle.Agrees known ranks

one_of : (dir : List ℕ) (left : List (List (List ℕ))) (files : Files) (rank : ℕ) (known : Option ℕ) → circle.SpellsOne → 0 < length left →
    HoldLists dir left files → Reached dir rank known (Some files) → IsOne rank known (length left)
one_of dir left files rank None one some kept reached = record { within = omega (arith, some, reached); agrees = tt }
one_of dir left files rank (Some ranks) one some kept reached =
    let own = kept 0 some in
    let read = reached.3.1 0 reached.0 in
    let same = (one.one_list own.bytes 0 (length left) 0 ranks _ _ own.spells (rank_spelled own.bytes read own.file)).1 in
    record { within = omega (arith, same, reached.1); agrees = same }

rank_for_memory : (dir : List ℕ) (left : List (List (List ℕ))) (files : Files) (rank : ℕ) (known : Option ℕ) (before after : ℕ) (why : ListsError) →
    circle.DamagedOnce → StoodStill before after → HoldLists dir left files → AllFit dir (length left) → IsOne rank known (length left) →
    StopsReadingAt dir rank known (Some files) before after why → why ≡ error.OutOfMemory
rank_for_memory dir left files rank known before after (error.Failed path) once stood kept fit is stops =
    absurd (no_fault before after stops.counted stood)
rank_for_memory dir left files rank known before after error.OutOfMemory once stood kept fit is stops = refl
rank_for_memory dir left files rank known before after (error.Damaged path line) once stood kept fit is stops =
    let at = stops.told in
    let spells = rank_spelled at.0 (kept rank is.within) at.1 in
    absurd (once.no_damage at.0 rank (length left) known _ line spells is.agrees at.2)
rank_for_memory dir left files rank known before after (error.NoFile path) once stood kept fit is (inl long) =
    absurd (omega (arith, long.long, fit rank is.within))
rank_for_memory dir left files rank known before after (error.NoFile path) once stood kept fit is (inr none) =
    absurd (false≢true (sym none.told ∙ (kept rank is.within).file.is_file))
rank_for_memory dir left files rank known before after (error.NoPlace path) once stood kept fit is stops = absurd stops

-- ---- misplaced strings

left_of : (P : List ℕ → Type 0) (xs ys : List (List ℕ)) → AllByRecursion P (xs ++ ys) → AllByRecursion P xs
left_of P [] ys h = tt
left_of P (x ∷ xs) ys h = (h.0, left_of P xs ys h.1)

right_of : (P : List ℕ → Type 0) (xs ys : List (List ℕ)) → AllByRecursion P (xs ++ ys) → AllByRecursion P ys
right_of P [] ys h = h
right_of P (x ∷ xs) ys h = right_of P xs ys h.1

in_flat : (P : List ℕ → Type 0) (earlier : List (List (List ℕ))) (list : List (List ℕ)) (later : List (List (List ℕ))) →
    AllByRecursion P (flat_map (λ l. l) (earlier ++ list ∷ later)) → AllByRecursion P list
in_flat P [] list later h = left_of P list (flat_map (λ l. l) later) h
in_flat P (first ∷ earlier) list later h = in_flat P earlier list later (right_of P first (flat_map (λ l. l) (earlier ++ list ∷ later)) h)

none_misplaced : (done : List Entry) (lists : List (List (List ℕ))) (rank place : ℕ) → ArePlaced done (flat_map (λ l. l) lists) →
    IsFirstMisplaced done lists rank place → ⊥
none_misplaced done lists rank place placed first =
    let P : List ℕ → Type 0 = λ path. is_misplaced done (flat_map (λ l. l) lists) path ≡ false in
    let all = subst (λ ls. AllByRecursion P (flat_map (λ l. l) ls)) first.are (recursion_from_All P (flat_map (λ l. l) lists) placed) in
    let own = in_flat P first.earlier (first.before ++ first.path ∷ first.behind) first.later all in
    false≢true (sym (right_of P first.before (first.path ∷ first.behind) own).0 ∙ first.misplaced)

-- ---- reading

-- the laws of the files that a checkpoint has
pub record Laws : Type 0 where
  pub list : SpellsOne
  pub refusals : RefusesExactly
  pub ranks : circle.SpellsOne
  pub damage : circle.DamagedOnce
  pub back : ReadsBack

not_misplaced : (dir : List ℕ) (done : List Entry) (left : List (List (List ℕ))) (files : Files) (before : Side) (why : Stop) → Laws →
    before.tree ≡ Some files → IsFineKept dir done left files → HasMisplaced dir before why → ⊥
not_misplaced dir done left files before why laws told f s =
    let list = of_told (HoldsEntries (list_path dir) s.done) before.tree files told s.list.told in
    let same : done ≡ s.done = one_done (list_path dir) done s.done files laws.list f.kept.list list in
    let ranks = of_told (HoldLists dir s.left) before.tree files told s.ranks in
    let all : left ≡ s.left = laws.back dir left s.left files f.some s.number.within f.kept.ranks ranks in
    let placed = subst (λ ls. ArePlaced s.done (flat_map (λ l. l) ls)) all (subst (λ d. ArePlaced d (flat_map (λ l. l) left)) same f.placed) in
    none_misplaced s.done s.left s.tells.rank s.tells.place placed s.tells.first

ranks_for_memory : (dir : List ℕ) (done : List Entry) (left : List (List (List ℕ))) (files : Files) (before after : Side) (why : Stop) → Laws →
    before.tree ≡ Some files → StoodStill before.count after.count → IsFineKept dir done left files → HasNoRanks dir before after why → why ≡ stop.OutOfMemory
ranks_for_memory dir done left files before after why laws told stood f s =
    let stops = subst (λ t. lists.StopsReading dir t before.count after.count s.error) told s.stops in
    let is = one_of dir left files stops.rank stops.known laws.ranks f.some f.kept.ranks stops.reached in
    let error = rank_for_memory dir left files stops.rank stops.known before.count after.count s.error laws.damage stood f.kept.ranks f.fit is stops.stops in
    s.told ∙ ap stop_of_lists error

pub reads_for_memory : Laws → FineReadsStopForMemory
reads_for_memory laws dir done left files before after why told stood f (inl is) = is
reads_for_memory laws dir done left files before after why told stood f (inr (inl s)) = absurd (omega (arith, s.long, f.near))
reads_for_memory laws dir done left files before after why told stood f (inr (inr (inl s))) =
    listing_for_memory dir done left files before after why laws.refusals told stood f s.stops
reads_for_memory laws dir done left files before after why told stood f (inr (inr (inr (inl s)))) =
    ranks_for_memory dir done left files before after why laws told stood f s
reads_for_memory laws dir done left files before after why told stood f (inr (inr (inr (inr s)))) =
    absurd (not_misplaced dir done left files before why laws told f s)

-- ---- writing

-- what holds of all of some paths in a row holds of each
at_rank : (P : List ℕ → Type 0) (f : ℕ → List ℕ) (a n : ℕ) → AllByRecursion P (map f (range_with_len a n)) → (k : ℕ) → k < n → P (f (a + k))
at_rank P f a zero all k lt = absurd (omega (arith, lt))
at_rank P f a (suc n) all zero lt = subst (λ i. P (f i)) (sym (add-zero a)) all.0
at_rank P f a (suc n) all (suc k) lt =
    let same : a + 1 + k ≡ a + suc k = omega arith in
    subst (λ i. P (f i)) same (at_rank P f (a + 1) n all.1 k (omega (arith, lt)))

rank_written : (dir : List ℕ) (rank : ℕ) (files : Files) (before after : ℕ) (why : ListsError) → StoodStill before after →
    IsFree files (file_path dir rank) → StopsWritingAt dir rank (Some files) before after why → why ≡ error.OutOfMemory
rank_written dir rank files before after (error.Failed path) stood free stops = absurd (no_fault before after stops.counted stood)
rank_written dir rank files before after error.OutOfMemory stood free stops = refl
rank_written dir rank files before after (error.Damaged path line) stood free stops = absurd stops
rank_written dir rank files before after (error.NoFile path) stood free stops = absurd stops
rank_written dir rank files before after (error.NoPlace path) stood free (inl long) = absurd (omega (arith, long.long, free.near))
rank_written dir rank files before after (error.NoPlace path) stood free (inr none) = absurd (false≢true (sym none.taken ∙ free.place))

ranks_written : (dir : List ℕ) (ranks : ℕ) (files : Files) (before after : Side) (why : Stop) → before.tree ≡ Some files →
    StoodStill before.count after.count → ((rank : ℕ) → rank < ranks → IsFree files (file_path dir rank)) →
    WroteNoRanks dir ranks before after why → why ≡ stop.OutOfMemory
ranks_written dir ranks files before after why told stood free s =
    let stops = subst (λ t. lists.StopsWriting dir ranks t before.count after.count s.error) told s.stops in
    s.told ∙ ap stop_of_lists (rank_written dir stops.rank files before.count after.count s.error stood (free stops.rank stops.within) stops.stops)

-- the removal of the old list file leaves each file its place
place_left : (dir p : List ℕ) (old mid : Files) → parent_of p ≡ dir → pointwise nat_eq p (list_path dir) ≡ false → IsGone (list_path dir) old mid →
    can_save mid p ≡ can_save old p
place_left dir p old mid above off gone =
    let over : get mid (parent_of p) ≡ get old (parent_of p) = subst (λ d. get mid d ≡ get old d) (sym above) (gone.others dir (dir_differs dir)) in
    let here : get mid p ≡ get old p = gone.others p off in
    ap (λ n. not (is_root p) && (is_dir n && (is_none (get mid p) || is_file (get mid p)))) over
    ∙ ap (λ n. not (is_root p) && (is_dir (get old (parent_of p)) && (is_none n || is_file n))) here

rank_left : (dir : List ℕ) (ranks : ℕ) (old mid : Files) → refusal dir ≡ None → ranks ≤ 64 → IsGone (list_path dir) old mid →
    AllByRecursion (IsFree old) (map (file_path dir) (range_with_len 0 ranks)) → (rank : ℕ) → rank < ranks → IsFree mid (file_path dir rank)
rank_left dir ranks old mid fine few gone free rank lt =
    let at = subst (λ k. IsFree old (file_path dir k)) (zero-add rank) (at_rank (IsFree old) (file_path dir) 0 ranks free rank lt) in
    let small : rank < 64 = omega (arith, lt, few) in
    record {
      place = place_left dir (file_path dir rank) old mid (parent_of_file dir rank fine small) (file_differs dir rank small) gone ∙ at.place;
      near = at.near;
    }

none_free : (a b : Bool) (n : Option Node) → (a && (b && (is_none n || is_file n))) ≡ true → (a && (b && true)) ≡ true
none_free true true n e = refl
none_free true false n e = absurd (false≢true e)
none_free false b n e = absurd (false≢true e)

list_left : (dir : List ℕ) (old mid : Files) → refusal dir ≡ None → IsGone (list_path dir) old mid → IsFree old (list_path dir) → IsFree mid (list_path dir)
list_left dir old mid fine gone free = by_gone gone.gone
  where
    path : List ℕ
    path = list_path dir

    by_gone : (get mid (list_path dir) ≡ None) ⊎ ((is_dir (get old (list_path dir)) ≡ true) × (mid ≡ old)) → IsFree mid (list_path dir)
    by_gone (inr stays) = subst (λ files. IsFree files (list_path dir)) (sym stays.1) free
    by_gone (inl none) =
        let over : get mid (parent_of path) ≡ get old (parent_of path) =
        subst (λ d. get mid d ≡ get old d) (sym (parent_of_list dir fine)) (gone.others dir (dir_differs dir)) in
        record {
          place = ap (λ n. not (is_root path) && (is_dir n && (is_none (get mid path) || is_file (get mid path)))) over
              ∙ ap (λ n. not (is_root path) && (is_dir (get old (parent_of path)) && (is_none n || is_file n))) none
              ∙ none_free (not (is_root path)) (is_dir (get old (parent_of path))) (get old path) free.place;
          near = free.near;
        }

-- the ranks' files take the list file's place from it neither at its path nor over it
same_place : (dir : List ℕ) (ranks : ℕ) (old mid : Files) → refusal dir ≡ None → ranks ≤ 64 → SameButFiles dir ranks old mid →
    can_save mid (list_path dir) ≡ can_save old (list_path dir)
same_place dir ranks old mid fine few same =
    let path = list_path dir in
    let over : get mid (parent_of path) ≡ get old (parent_of path) =
    subst (λ d. get mid d ≡ get old d) (sym (parent_of_list dir fine)) (same dir (λ rank lt. folder_differs dir rank)) in
    let here : get mid path ≡ get old path = same path (λ rank lt. list_differs dir rank (omega (arith, lt, few))) in
    ap (λ n. not (is_root path) && (is_dir n && (is_none (get mid path) || is_file (get mid path)))) over
    ∙ ap (λ n. not (is_root path) && (is_dir (get old (parent_of path)) && (is_none n || is_file n))) here

-- a tree that is told still
record IsTold (tree : Option Files) (dir : List ℕ) (ranks : ℕ) (old : Files) : Type 0 where
  files : Files
  is : tree ≡ Some files
  rest : SameButFiles dir ranks old files

still_told : (dir : List ℕ) (ranks : ℕ) (before : Option Files) (old : Files) (tree : Option Files) → before ≡ Some old → is_some tree ≡ is_some before →
    IfSome before (λ files. IfSome tree (SameButFiles dir ranks files)) → IsTold tree dir ranks old
still_told dir ranks before old None told tells rest = absurd (false≢true (tells ∙ ap is_some told))
still_told dir ranks before old (Some mid) told tells rest =
    record { files = mid; is = refl; rest = of_told (λ files. SameButFiles dir ranks files mid) before old told rest }

list_written : (dir : List ℕ) (ranks : ℕ) (done : List Entry) (files : Files) (before after : Side) (why : Stop) → FinePlacesStopForMemory →
    refusal dir ≡ None → ranks ≤ 64 → before.tree ≡ Some files → StoodStill before.count after.count → IsFree files (list_path dir) →
    WroteNoList dir ranks done before after why → why ≡ stop.OutOfMemory
list_written dir ranks done files before after why places fine few told stood free s =
    let now = still_told dir ranks before.tree files s.between.tree told s.tells s.rest in
    let can = same_place dir ranks files now.files fine few now.rest ∙ free.place in
    let still : StoodStill s.between.count after.count =
    record { same = omega (arith, s.kept, s.stops.kept, s.stops.still, stood.same); below_end = stood.below_end }
    in
    let P : Output → Type 0 = λ output. can_save now.files output.path ≡ true in
    places (output_of (Some (list_path dir)) done) now.files s.between after why now.is
    (All-from_recursion P (output_of (Some (list_path dir)) done) (can, tt)) still s.stops

-- a tree that is told still after the old list file was removed
record IsToldGone (tree : Option Files) (dir : List ℕ) (old : Files) : Type 0 where
  files : Files
  is : tree ≡ Some files
  gone : IsGone (list_path dir) old files

gone_told : (dir : List ℕ) (before : Option Files) (old : Files) (tree : Option Files) → before ≡ Some old → is_some tree ≡ is_some before →
    IfSome before (λ files. IfSome tree (IsGone (list_path dir) files)) → IsToldGone tree dir old
gone_told dir before old None told tells gone = absurd (false≢true (tells ∙ ap is_some told))
gone_told dir before old (Some mid) told tells gone =
    record { files = mid; is = refl; gone = of_told (λ files. IsGone (list_path dir) files mid) before old told gone }

torn_by : (dir : List ℕ) (ranks : ℕ) (done : List Entry) (mid : Files) (between after : Side) (why : Stop) → FinePlacesStopForMemory →
    refusal dir ≡ None → ranks ≤ 64 → between.tree ≡ Some mid → StoodStill between.count after.count →
    ((rank : ℕ) → rank < ranks → IsFree mid (file_path dir rank)) → IsFree mid (list_path dir) →
    WroteNoRanks dir ranks between after why ⊎ WroteNoList dir ranks done between after why → why ≡ stop.OutOfMemory
torn_by dir ranks done mid between after why places fine few told still rank_free list_free (inl s) =
    ranks_written dir ranks mid between after why told still rank_free s
torn_by dir ranks done mid between after why places fine few told still rank_free list_free (inr s) =
    list_written dir ranks done mid between after why places fine few told still list_free s

torn_written : (dir : List ℕ) (ranks : ℕ) (done : List Entry) (files : Files) (before after : Side) (why : Stop) → FinePlacesStopForMemory →
    refusal dir ≡ None → ranks ≤ 64 → before.tree ≡ Some files → StoodStill before.count after.count →
    AllByRecursion (IsFree files) (checkpoint_paths dir ranks) → WroteTorn dir ranks done before after why → why ≡ stop.OutOfMemory
torn_written dir ranks done files before after why places fine few told stood free s =
    let now = gone_told dir before.tree files s.between.tree told s.cleared.tells s.cleared.gone in
    let still : StoodStill s.between.count after.count =
    record { same = omega (arith, s.cleared.kept, s.still, stood.same); below_end = stood.below_end } in
    torn_by dir ranks done now.files s.between after why places fine few now.is still (rank_left dir ranks files now.files fine few now.gone free.1)
    (list_left dir files now.files fine now.gone free.0) s.stops

pub writes_for_memory : FinePlacesStopForMemory → FineWritesStopForMemory
writes_for_memory places dir ranks done files before after why fine few told stood free (inl is) = is
writes_for_memory places dir ranks done files before after why fine few told stood free (inr (inl s)) =
    absurd (omega (arith, s.long, (recursion_from_All (IsFree files) (checkpoint_paths dir ranks) free).0.near))
writes_for_memory places dir ranks done files before after why fine few told stood free (inr (inr (inl s))) =
    absurd (no_fault before.count after.count s.counted stood)
writes_for_memory places dir ranks done files before after why fine few told stood free (inr (inr (inr s))) =
    torn_written dir ranks done files before after why places fine few told stood (recursion_from_All (IsFree files) (checkpoint_paths dir ranks) free) s
