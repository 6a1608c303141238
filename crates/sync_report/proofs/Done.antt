-- Where nothing stands against a sync, and no answer failed, each removal and each copy is done.
use Rattle.sync_report.proofs.Prelude.{◌≡◌, ℕ, Bool, true, false, cond, ◌&&◌, List, [], ◌∷◌, filter, map, length, nat_eq, Option, Some, None, IfSome, refl, ap}
use Rattle.sync_report.proofs.Prelude.{◌∙◌, sym, subst, arith, false≢true, and_from, or_left, All-from_recursion, recursion_from_All, IsTrue, is_none, is_some}
use Rattle.sync_report.proofs.Prelude.{get, All, AllByRecursion, count_by, list_any, pointwise, bytes_decides, below_of, grafted, is_within, Body, Files, Node}
use Rattle.sync_report.proofs.Prelude.{dir, far_at, file, kind_of, link, other, text_of, all_weaker, Entry, is_kind, paths, is_failed, Fate, Findings, side}
use Rattle.sync_report.proofs.Prelude.{Copied, clashes, ends_of, is_untold, target_of, treated, FineEntriesAreCopied, TargetsAreLong, IsPair, overlap, Pair}
use Rattle.sync_report.proofs.Prelude.{AreWhole, WholeChoicesGo, Removed, WasChosen, Results, Synced, chosen_of, copied_of, is_chosen, is_copied, is_there}
use Rattle.sync_report.proofs.Prelude.{IsTold, WalkIsRecursive, all_told, entry_of, told, both, IsFineEntry, list_any-map}
use Rattle.outside.specs.declared.trees.Kind.TheVariants as kind
use Rattle.level_work.specs.declared.items.Fate.TheVariants as fate
use Rattle.tree_copy.specs.Laws as copy
use Rattle.sync_report.proofs.Chosen as chosen
use Rattle.sync_report.proofs.Lists.{kept, passing}
use Rattle.sync_report.proofs.Told.{AreCompared}
use Rattle.sync_report.proofs.Walked.{each}

abbrev Fated : Type 0
Fated = List ℕ × Fate

abbrev AllDone : List Fated → Type 0
AllDone rows = All (λ row. row.1 ≡ fate.Done) rows

-- the laws that this rests on
pub record Laws : Type 0 where
  pub chosen : chosen.Laws
  pub recursive : WalkIsRecursive
  pub copied : FineEntriesAreCopied
  pub long : TargetsAreLong
  pub go : WholeChoicesGo

-- ---- the text of each link is known, where no answer fails

known_text : (node : Option Node) (p : List ℕ) → is_untold (entry_of (told 0) node p) ≡ false
known_text None p = refl
known_text (Some n) p = by n.body
  where
    by : (b : Body) → (is_kind kind.Link (kind_of b) && is_none (text_of b)) ≡ false
    by (dir far) = refl
    by (file bytes) = refl
    by (link text) = refl
    by other = refl

-- ---- rows

all_map : {X Y : Type 0} (P : Y → Type 0) (f : X → Y) (xs : List X) → AllByRecursion P (map f xs) → AllByRecursion (λ x. P (f x)) xs
all_map P f [] h = tt
all_map P f (x ∷ xs) h = (h.0, all_map P f xs h.1)

no_rows : (rows : List Fated) → map (λ row. row.0) rows ≡ [] → rows ≡ []
no_rows [] e = refl
no_rows (row ∷ rows) e = absurd (omega (arith, ap length e))

-- a tree that is there, with what is so of it
record IsThere (P : Files → Type 0) (tree : Option Files) : Type 0 where
  files : Files
  is : tree ≡ Some files
  holds : P files

there : (P : Files → Type 0) (tree : Option Files) → is_some tree ≡ true → IfSome tree P → IsThere P tree
there P None some h = absurd (false≢true some)
there P (Some files) some h = record { files = files; is = refl; holds = h }

-- the top has an entry with a stat
top_told : (node : Option Node) (p : List ℕ) → is_some node ≡ true →
    (pointwise nat_eq (entry_of (told 0) node p).path p && is_some (entry_of (told 0) node p).stat) ≡ true
top_told None p some = absurd (false≢true some)
top_told (Some n) p some = and_from (pointwise nat_eq p p) true ((bytes_decides p p).1 refl) refl

module _ (laws : Laws) (files : Files) (pair : Pair) (delete : Bool) (source dest : List Entry) (found : Findings)
    (c : AreCompared files pair source dest found) where
  is_top : is_some (get files pair.source) ≡ true → is_there (side pair.source source) ≡ true
  is_top some =
      let top = entry_of (told 0) (get files pair.source) pair.source in
      subst (λ es. is_there (side pair.source es) ≡ true) (sym (c.left.is ∙ laws.recursive files all_told pair.source c.left.tree c.left.valid))
      (or_left (pointwise nat_eq top.path pair.source && is_some top.stat) _ (top_told (get files pair.source) pair.source some))

  -- ---- the removals

  -- what the removals came to
  record AreRight (rows : List Fated) (mid : Files) : Type 0 where
    done : AllDone rows
    free : (e : Entry) → IsFineEntry pair delete files e → IsTold files all_told e → IsTrue (is_within e.path pair.source) → is_some e.stat ≡ true →
        clashes e.stat (get mid (grafted pair.target (below_of e.path pair.source))) ≡ false

  goes_to : (x : List ℕ) → is_within x pair.source ≡ true → target_of (pair ∷ []) x ≡ grafted pair.target (below_of x pair.source)
  goes_to x w = ap (λ b. cond b (grafted pair.target (below_of x pair.source)) []) w

  abbrev chosen_paths : List (List ℕ)
  chosen_paths = paths (filter (is_chosen (side pair.source source) (side pair.target dest) found.rows) dest)

  with_removal : (rows : List Fated) (mid : Files) → map (λ row. row.0) rows ≡ chosen_paths → Removed rows files mid →
      count_by (λ row. is_failed row.1) rows ≡ 0 → AreRight rows mid
  with_removal rows mid are removed none =
      let all = laws.go rows files mid removed (subst (AreWhole files) (sym are) (chosen.are_whole laws.chosen files pair source dest found c))
      (All-from_recursion (λ (row : Fated). far_at (get files row.0) ≡ 0) rows
      (all_map (λ q. far_at (get files q) ≡ 0) (λ (row : Fated). row.0) rows
      (subst (AllByRecursion (λ q. far_at (get files q) ≡ 0)) (sym are) (chosen.none_far laws.chosen files pair source dest found c)))) none in
      record {
        done = all;
        free = λ e fine t on stat. chosen.free laws.chosen files pair source dest found c mid (record {
          gone = λ q h.
              let row = passing (λ (row : Fated). pointwise nat_eq q row.0) (λ row. WasChosen files mid row.0 row.1 × (row.1 ≡ fate.Done)) rows
              (both (λ (row : Fated). WasChosen files mid row.0 row.1) (λ (row : Fated). row.1 ≡ fate.Done) rows
              (recursion_from_All (λ (row : Fated). WasChosen files mid row.0 row.1) rows removed.each)
              (recursion_from_All (λ (row : Fated). row.1 ≡ fate.Done) rows all))
              (sym (list_any-map (pointwise nat_eq q) (λ (row : Fated). row.0) rows) ∙ ap (list_any (pointwise nat_eq q)) are ∙ h) in
              ap (get mid) ((bytes_decides q row.one.0).0 row.passes) ∙ row.holds.0.gone row.holds.1;
          same = λ q off. removed.others q (ap (list_any (pointwise nat_eq q)) are ∙ off);
        }) e t on stat;
      }

  without_removal : (rows : List Fated) (mid : Files) → delete ≡ false → map (λ row. row.0) rows ≡ [] → Removed rows files mid → AreRight rows mid
  without_removal rows mid off are removed = record {
    done = subst AllDone (sym (no_rows rows are)) (All-from_recursion (λ (row : Fated). row.1 ≡ fate.Done) [] tt);
    free = λ e fine t on stat.
        ap (clashes e.stat) (removed.others (grafted pair.target (below_of e.path pair.source)) (ap (list_any (pointwise nat_eq _)) are))
        ∙ ap (λ q. clashes e.stat (get files q)) (sym (goes_to e.path on)) ∙ fine.free off;
  }

  removal : (rows : List Fated) (mid : Files) → is_there (side pair.source source) ≡ true →
      map (λ row. row.0) rows ≡ paths (chosen_of delete (side pair.source source) (side pair.target dest) found.rows) → Removed rows files mid →
      count_by (λ row. is_failed row.1) rows ≡ 0 → AreRight rows mid
  removal rows mid top are removed none = by delete refl
    where
      chosen_by : (b : Bool) → delete ≡ b → map (λ row. row.0) rows ≡
          paths (cond (b && true) (filter (is_chosen (side pair.source source) (side pair.target dest) found.rows) dest) [])
      chosen_by b is =
          are ∙ (λ i. paths (cond (is i && top i) (filter (is_chosen (side pair.source source) (side pair.target dest) found.rows) dest) []))

      by : (b : Bool) → delete ≡ b → AreRight rows mid
      by true is = with_removal rows mid (chosen_by true is) removed none
      by false is = without_removal rows mid is (chosen_by false is) removed

  -- ---- the copies

  -- what is so of each entry with a stat is so of those that are copied
  of_copied : (P : Entry → Type 0) → is_there (side pair.source source) ≡ true → AllByRecursion (λ e. is_some e.stat ≡ true → P e) source →
      All P (treated (copied_of (side pair.source source) found.rows))
  of_copied P top h =
      let wanted = filter (is_copied (side pair.source source) found.rows) source in
      let some = all_weaker (λ e. (is_copied (side pair.source source) found.rows e ≡ true) × (is_some e.stat ≡ true → P e)) (λ e. is_some e.stat ≡ true → P e)
      (λ e k. k.1) wanted (kept (is_copied (side pair.source source) found.rows) (λ e. is_some e.stat ≡ true → P e) source h) in
      subst (λ es. All P (treated es)) (ap (λ b. cond b wanted []) (sym top))
      (All-from_recursion P (treated wanted) (all_weaker (λ e. (is_some e.stat ≡ true) × (is_some e.stat ≡ true → P e)) P (λ e k. k.1 k.0) (treated wanted)
      (kept (λ e. is_some e.stat) (λ e. is_some e.stat ≡ true → P e) wanted some)))

  copies : (rows : List Fated) (removed : List Fated) (mid new : Files) → AreRight removed mid → is_there (side pair.source source) ≡ true →
      All (IsFineEntry pair delete files) source → overlap (ends_of (pair ∷ [])) ≡ false → IsPair pair →
      map (λ row. row.0) rows ≡ paths (treated (copied_of (side pair.source source) found.rows)) →
      Copied (copied_of (side pair.source source) found.rows) (pair ∷ []) rows mid new → count_by (λ row. is_failed row.1) rows ≡ 0 → AllDone rows
  copies rows removed mid new right top fine off is_pair are copied none =
      let known = both (λ e. IsTold files all_told e × IsTrue (is_within e.path pair.source)) (IsFineEntry pair delete files) source
      (each laws.chosen.tells files all_told pair.source source c.left) (recursion_from_All (IsFineEntry pair delete files) source fine) in
      laws.copied (copied_of (side pair.source source) found.rows) (pair ∷ []) rows mid new
      (laws.long.of_apart (pair ∷ []) off (All-from_recursion IsPair (pair ∷ []) (is_pair, tt))) are copied
      (of_copied (copy.IsFineEntry mid (pair ∷ [])) top
      (all_weaker (λ e. (IsTold files all_told e × IsTrue (is_within e.path pair.source)) × IsFineEntry pair delete files e)
      (λ e. is_some e.stat ≡ true → copy.IsFineEntry mid (pair ∷ []) e)
      (λ e k stat. record {
        kind = k.1.kind;
        short = k.1.short;
        free = ap (λ q. clashes e.stat (get mid q)) (goes_to e.path k.0.1) ∙ right.free e k.1 k.0.0 k.0.1 stat;
      }) source known))
      (of_copied (λ e. is_untold e ≡ false) top
      (all_weaker (λ e. (IsTold files all_told e × IsTrue (is_within e.path pair.source)) × IsFineEntry pair delete files e)
      (λ e. is_some e.stat ≡ true → is_untold e ≡ false) (λ e k stat. ap is_untold k.0.0.own ∙ known_text (get files e.path) e.path) source known))
      none

-- ---- a sync of two walks

pub record AreDone (done : Results) : Type 0 where
  pub copies : AllDone done.copies
  pub removals : AllDone done.removals

pub are_done : (laws : Laws) (files : Files) (pair : Pair) (delete : Bool) (source dest : List Entry) (done : Results) (new : Option Files) →
    (s : Synced pair source dest delete done (Some files) new) → AreCompared files pair source dest s.found → is_some (get files pair.source) ≡ true →
    All (IsFineEntry pair delete files) source → overlap (ends_of (pair ∷ [])) ≡ false → IsPair pair →
    count_by (λ row. is_failed row.1) done.removals ≡ 0 → count_by (λ row. is_failed row.1) done.copies ≡ 0 → AreDone done
are_done laws files pair delete source dest done new s c some fine off is_pair none none' =
    let top = is_top laws files pair delete source dest s.found c some in
    let m = there (Removed done.removals files) s.between s.removed.tells s.removed.removed in
    let right = removal laws files pair delete source dest s.found c done.removals m.files top s.removed.paths m.holds none in
    let n = there (Copied (copied_of (side pair.source source) s.found.rows) (pair ∷ []) done.copies m.files) new
    (s.copied.tells ∙ s.removed.tells)
    (subst (λ t. IfSome t (λ old. IfSome new (Copied (copied_of (side pair.source source) s.found.rows) (pair ∷ []) done.copies old))) m.is s.copied.copied) in
    record {
      removals = right.done;
      copies = copies laws files pair delete source dest s.found c done.copies done.removals m.files n.files right top fine off is_pair s.copied.paths
          n.holds none';
    }
