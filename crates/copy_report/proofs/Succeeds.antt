-- When dcp succeeds.
use Rattle.copy_report.proofs.Prelude.{◌≡◌, ⊎_elim, ℕ, ◌≤◌, false, List, [], ◌++◌, length, Option, Some, None, ◌&&◌, get_or, Result, Ok, Err, refl, ap, ◌∙◌}
use Rattle.copy_report.proofs.Prelude.{sym, subst, arith, All-filter, is_none, is_some, get, All, flat_map, parent_of, Body, Files, Node, dir, file, is_dir}
use Rattle.copy_report.proofs.Prelude.{kind_of, link, other, text_of, Entry, is_kind, Fate, Copied, is_untold, FineEntriesAreCopied, IsFineEntry}
use Rattle.copy_report.proofs.Prelude.{TargetsAreLong, placed, placed_over, Pair, PlaceError, EntriesAreTold, walk, all_told, entry_of, AreInOrder}
use Rattle.copy_report.proofs.Prelude.{NothingToOrder, CopyAsked, roots, WithinCopy, Report, Stop, Side, side_with, IsFineSide, DoneNamesNothing}
use Rattle.copy_report.proofs.Prelude.{FineWalksAreWhole, FineWalksNameNothing, FineWalksStopForMemory, StillCounts, copy_notes, of_told, some_of}
use Rattle.copy_report.proofs.Prelude.{ReportsCopies, StopsCopy, ReportsCopy, FineCopy, Copies, FineCopySucceeds, Places, IsNowhere}
use Rattle.outside.specs.declared.trees.Kind.TheVariants as kind
use Rattle.tree_copy.specs.declared.pairs.PlaceError.TheVariants as place
use Rattle.run_report.specs.declared.stops.Stop.TheVariants as stop

abbrev Row : Type 0
Row = List ℕ × Fate

pub record Laws : Type 0 where
  pub walks : FineWalksNameNothing
  pub whole : FineWalksAreWhole
  pub stops : FineWalksStopForMemory
  pub order : NothingToOrder
  pub are_told : EntriesAreTold
  pub long : TargetsAreLong
  pub copied : FineEntriesAreCopied
  pub done : DoneNamesNothing
  pub still : StillCounts

-- ---- what is told

-- what is due by the files is the answer
told_due : (asked : CopyAsked) (tree : Option Files) (files : Files) (answer : Result (List Pair) PlaceError) → tree ≡ Some files →
    Places asked.sources asked.dest tree answer → placed_over files asked.dest asked.sources ≡ answer
told_due asked tree files answer told p =
    let is = of_told (λ files. (p.in_dir ≡ is_dir (get files asked.dest)) × (p.over_dir ≡ is_dir (get files (parent_of asked.dest)))) tree files told p.told in
    (λ i. placed (sym is.0 i) (sym is.1 i) asked.dest asked.sources) ∙ p.due

ok_is : (xs ys : List Pair) (r : Result (List Pair) PlaceError) → r ≡ Ok xs → r ≡ Ok ys → xs ≡ ys
ok_is xs ys r e f = cc

not_ok : (e : PlaceError) (ys : List Pair) → Err e ≡ Ok ys → ⊥
not_ok e ys is = cc

-- ---- what is walked in a fine side

-- in a walk in which nothing fails the text of each link is known

body_known : (b : Body) → (is_kind kind.Link (kind_of b) && is_none (text_of b)) ≡ false
body_known (dir far) = refl
body_known (file bytes) = refl
body_known (link text) = refl
body_known other = refl

node_known : (found : Option Node) (p : List ℕ) → is_untold (entry_of (all_told p) found p) ≡ false
node_known None p = refl
node_known (Some n) p = body_known n.body

all_known : EntriesAreTold → (files : Files) (starts : List (List ℕ)) → All (λ e. is_untold e ≡ false) (flat_map (walk files all_told) starts)
all_known law files starts = λ k d l.
    let e = get_or (flat_map (walk files all_told) starts) k d in
    ap is_untold (law.of_all files all_told starts k d l).own ∙ node_known (get files e.path) e.path

module _ (laws : Laws) (asked : CopyAsked) (before after : Side) (within : WithinCopy asked) (fine : FineCopy asked before after) where
  abbrev files : Files
  files = fine.side.files

  abbrev side_in : (from until : ℕ) → before.count ≤ from → from ≤ until → until ≤ after.count →
      IsFineSide (roots asked.sources) (side_with before.tree from) (side_with before.tree until)
  side_in from until a b c = record {
    files = files;
    told = fine.side.told;
    fine = fine.side.fine;
    stood = laws.still.between before.count from until after.count a b c fine.side.stood;
  }

  the_pairs : (pairs : List Pair) → Places asked.sources asked.dest before.tree (Ok pairs) → fine.pairs ≡ pairs
  the_pairs pairs p = ok_is fine.pairs pairs (placed_over files asked.dest asked.sources) fine.places
      (told_due asked before.tree files (Ok pairs) fine.side.told p)

  -- each entry comes to `Done`
  no_fates : (pairs : List Pair) (entries : List Entry) (rows : List Row) (found : ℕ) → Places asked.sources asked.dest before.tree (Ok pairs) →
      entries ≡ flat_map (walk files all_told) fine.side.fine.roots → before.count ≤ found → Copies pairs entries rows (side_with before.tree found) after →
      copy_notes rows ≡ []
  no_fates pairs entries rows found p is early c =
      let each = subst (λ ps. All (IsFineEntry files ps) entries) (the_pairs pairs p) (subst (All (IsFineEntry files fine.pairs)) (sym is) fine.entries) in
      let Known : Entry → Type 0 = λ e. is_untold e ≡ false in
      let known = subst (All Known) (sym is) (all_known laws.are_told files fine.side.fine.roots) in
      let stood = laws.still.between before.count found after.count after.count early c.blamed.kept (omega arith) fine.side.stood in
      let last = some_of (Copied entries pairs rows) before.tree after.tree files fine.side.told c.tells c.copied in
      let long = laws.long.of_placed (is_dir (get files asked.dest)) (is_dir (get files (parent_of asked.dest))) asked.dest asked.sources pairs within.dest
      within.sources (told_due asked before.tree files (Ok pairs) fine.side.told p) in
      laws.done.copies rows (laws.copied entries pairs rows files last.0 long c.paths last.1
      (All-filter (λ (e : Entry). is_some e.stat) (IsFineEntry files pairs) entries each) (All-filter (λ (e : Entry). is_some e.stat) Known entries known)
      (laws.still.none _ found after.count c.blamed stood))

  of_copies : (report : Report) → ReportsCopies asked before after report → report.failed ≡ 0
  of_copies report r =
      let s = r.surveys in
      let a = s.kept in
      let b = s.walked.counted.kept in
      let c = r.copies.blamed.kept in
      let early : before.count ≤ r.found = omega (arith, a, b) in
      let side = side_in s.between r.found a b c in
      let is = laws.whole asked.sources r.entries (side_with before.tree s.between) (side_with before.tree r.found) within.sources side s.walked in
      let silent = laws.walks asked.sources r.entries false (side_with before.tree s.between) (side_with before.tree r.found) within.sources side s.walked in
      let fates = no_fates r.pairs r.entries r.rows r.found s.places is early r.copies in
      r.counts ∙ ap length (laws.order.none r.notes (subst (λ given. AreInOrder given r.notes) (λ i. silent i ++ fates i) r.names))

  names_nothing : (report : Report) → ReportsCopy asked before after report → report.failed ≡ 0
  names_nothing report r =
      ⊎_elim (λ f. absurd (omega (arith, laws.still.none 1 before.count after.count f.blamed fine.side.stood))) (λ c. of_copies report c) r

  -- the sources go somewhere
  not_nowhere : (reason : Stop) → IsNowhere asked before.tree reason → ⊥
  not_nowhere stop.Overlap p = not_ok place.Overlap fine.pairs (sym (told_due asked before.tree files (Err place.Overlap) fine.side.told p) ∙ fine.places)
  not_nowhere stop.NoDirectory p = not_ok place.NoDest fine.pairs (sym (told_due asked before.tree files (Err place.NoDest) fine.side.told p) ∙ fine.places)
  not_nowhere stop.OutOfMemory p = absurd p
  not_nowhere stop.TooMany p = absurd p
  not_nowhere (stop.Stopped handled left) p = absurd p
  not_nowhere (stop.Damaged path line) p = absurd p
  not_nowhere (stop.ListFile why path) p = absurd p

  stops_for_memory : (reason : Stop) → StopsCopy asked before after reason → reason ≡ stop.OutOfMemory
  stops_for_memory reason stops =
      ⊎_elim (λ is. is) (λ s. ⊎_elim (λ n. absurd (not_nowhere reason n))
      (λ w. laws.stops asked.sources (side_with before.tree w.between) after reason within.sources (record {
        files = files;
        told = fine.side.told;
        fine = fine.side.fine;
        stood = laws.still.between before.count w.between after.count after.count w.kept w.later (omega arith) fine.side.stood;
      }) w.stops) s.0) stops

pub copy_succeeds : Laws → FineCopySucceeds
copy_succeeds laws asked before after within fine = record {
  names_nothing = names_nothing laws asked before after within fine;
  stops_for_memory = stops_for_memory laws asked before after within fine;
}
