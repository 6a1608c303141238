-- When dsync succeeds.
use Rattle.sync_report.proofs.Prelude.{◌≡◌, ⊎_elim, ℕ, ◌≤◌, true, false, not, cond, List, [], ◌∷◌, ◌++◌, filter, map, length, nat_eq, Option, Some, None}
use Rattle.sync_report.proofs.Prelude.{IfSome, Result, Err, refl, ap, ◌∙◌, sym, subst, arith, append-nil, All-from_recursion, recursion_from_All, sum_by-cons}
use Rattle.sync_report.proofs.Prelude.{is_some, get, All, flat_map, sum_by, pointwise, bytes_decides, joined, parent_of, refusal, StoodStill, Files, IsTree}
use Rattle.sync_report.proofs.Prelude.{Node, is_dir, names_in, Entry, max_entries, overlap, Pair, PlaceError, sync_placed, sync_placed_over, Synced}
use Rattle.sync_report.proofs.Prelude.{RootsAreUnique, Answer, WalkAscends, WalkIsRecursive, all_told, answer_in, answers_in, bare, entry_of, list_failed}
use Rattle.sync_report.proofs.Prelude.{stat_failed, told, walk, weight, weight_of, AreInOrder, NothingToOrder, SyncAsked, input, roots, Valid, WithinSync}
use Rattle.sync_report.proofs.Prelude.{Report, Stop, Side, side_with, Walked, DoneNamesNothing, FineWalksNameNothing, FineWalksStopForMemory, StillCounts}
use Rattle.sync_report.proofs.Prelude.{IsTooLongWalk, StopsListing, FineSyncSucceeds, IsNowhere, Places, FineSync, IsFineDest, IsFineEntry, ReportsSync}
use Rattle.sync_report.proofs.Prelude.{ReportsSynced, StopsSync, dest_notes, pair_of, path_notes, says_absent}
use Rattle.entry_pages.specs.declared.entries.Mark.TheVariants as mark
use Rattle.tree_copy.specs.declared.pairs.PlaceError.TheVariants as place
use Rattle.tool_text.specs.declared.noting.Why.TheVariants as why
use Rattle.run_report.specs.declared.stops.Stop.TheVariants as stop
use Rattle.run_report.specs.declared.stops.Trouble.TheVariants as trouble
use Rattle.sync_report.proofs.Below.{apart, not_root}
use Rattle.sync_report.proofs.Done as works
use Rattle.sync_report.proofs.Equal.{own_walk}
use Rattle.sync_report.proofs.Placed.{no_overlap, not_ok}
use Rattle.sync_report.proofs.Ready.{from_top, own_root}
use Rattle.sync_report.proofs.Walked.{IsWalk}

-- the laws that this rests on
pub record Laws : Type 0 where
  pub names : FineWalksNameNothing
  pub stops : FineWalksStopForMemory
  pub order : NothingToOrder
  pub done : DoneNamesNothing
  pub still : StillCounts
  pub unique : RootsAreUnique
  pub ascends : WalkAscends
  pub acts : works.Laws

-- ---- what is told

of_told : (P : Files → Type 0) (tree : Option Files) (files : Files) → tree ≡ Some files → IfSome tree P → P files
of_told P tree files is h = subst (λ t. IfSome t P) is h

-- ---- a walk that no answer failed is the walk in which none fails

no_weight : (e : Entry) → weight_of e ≡ 0 → answer_in e ≡ told 0
no_weight e h = by (answer_in e) h
  where
    by : (a : Answer) → weight a ≡ 0 → a ≡ told 0
    by (told n) h = ap told h
    by stat_failed h = absurd (omega (arith, h))
    by list_failed h = absurd (omega (arith, h))

no_answer : (es : List Entry) → sum_by weight_of es ≡ 0 → (p : List ℕ) → answers_in es p ≡ told 0
no_answer [] h p = refl
no_answer (e ∷ es) h p =
    let sums = sum_by-cons weight_of e es in
    elim (pointwise nat_eq e.path p) as (λ b. cond b (answer_in e) (answers_in es p) ≡ told 0) [
      | true ↦ no_weight e (omega (arith, h, sums))
      | false ↦ no_answer es (omega (arith, h, sums)) p
    ]

pub whole_walk : RootsAreUnique → (top : List ℕ) (list : List Entry) (files : Files) (n : ℕ) (after : Side) → refusal top ≡ None →
    Walked (top ∷ []) list (side_with (Some files) n) after → sum_by weight_of list ≡ 0 → (list ≡ walk files all_told top) × IsTree files
whole_walk unique top list files n after v w none =
    let is = from_top unique top list files n after v w in
    (is.0 ∙ (λ i. walk files (λ p. no_answer list none p i) top), is.1)

-- ---- what the destination's walk names

-- a walk of what is not there
absent : WalkIsRecursive → (files : Files) (top : List ℕ) → IsTree files → refusal top ≡ None → get files top ≡ None →
    walk files all_told top ≡ bare top mark.Gone ∷ []
absent law files top t v none =
    law files all_told top t v
    ∙ (λ i. entry_of (told 0) (none i) top ∷ flat_map (walk files all_told) (cond (is_dir (none i)) (map (joined top) (names_in files top)) []))

gone_silent : (top : List ℕ) → dest_notes top (bare top mark.Gone ∷ []) ≡ []
gone_silent top = ap (λ b. cond (not b) (record { path = top; why = why.Gone; dest = false } ∷ []) []) ((bytes_decides top top).1 refl)

one_valid : (path : List ℕ) → Valid path → All Valid (path ∷ [])
one_valid path v = All-from_recursion Valid (path ∷ []) (v, tt)

dest_silent : Laws → (top : List ℕ) (list : List Entry) (files : Files) (before after : Side) → Valid top → before.tree ≡ Some files →
    Walked (top ∷ []) list before after → list ≡ walk files all_told top → IsTree files → IsFineDest files top → StoodStill before.count after.count →
    dest_notes top list ≡ []
dest_silent laws top list files before after v says w is t fine stood = by (get files top) refl
  where
    by : (node : Option Node) → get files top ≡ node → dest_notes top list ≡ []
    by None none = ap (dest_notes top) (is ∙ absent laws.acts.recursive files top t v none) ∙ gone_silent top
    by (Some n) some = ap (filter (λ n. not (says_absent top n))) (laws.names (top ∷ []) list false before after (one_valid top v) (record {
      files = files;
      told = says;
      fine = record {
        roots = top ∷ [];
        are = own_root top;
        there = All-from_recursion (λ root. is_some (get files root) ≡ true) (top ∷ []) (ap is_some some, tt);
        near = subst (All (λ e. e.far ≡ 0)) (sym (append-nil (walk files all_told top))) fine.near;
        few = subst (λ es. length es ≤ max_entries) (sym (append-nil (walk files all_told top))) fine.few;
      };
      stood = stood;
    }) w)

-- ---- what stops a walk

not_input : (given : List (List ℕ)) (path : List ℕ) → roots given ≡ input path → ⊥
not_input given path e = cc

only_memory : (top : List ℕ) (before after : Side) (reason : Stop) → (IsTooLongWalk (top ∷ []) before after → ⊥) →
    StopsListing (roots (top ∷ [])) before after reason → reason ≡ stop.OutOfMemory
only_memory top before after stop.OutOfMemory off s = refl
only_memory top before after stop.TooMany off s = absurd (off s)
only_memory top before after (stop.Damaged path line) off s = absurd (not_input (top ∷ []) path s.named)
only_memory top before after (stop.ListFile trouble.Absent path) off s = absurd (not_input (top ∷ []) path s.named)
only_memory top before after (stop.ListFile trouble.Fault path) off s = absurd (not_input (top ∷ []) path s.named)
only_memory top before after reason off s = absurd s

-- ---- the pair was placed

told_due : (pair : Pair) (tree : Option Files) (files : Files) (answer : Result (Unit {0}) PlaceError) → tree ≡ Some files → Places pair tree answer →
    sync_placed_over files pair.source pair.target ≡ answer
told_due pair tree files answer is p =
    ap (λ over. sync_placed over pair.source pair.target)
    (sym (of_told (λ files. p.over_dir ≡ is_dir (get files (parent_of pair.target))) tree files is p.told)) ∙ p.due

-- ---- counts

nothing : (xs : List (List ℕ)) → length xs ≡ 0 → xs ≡ []
nothing [] e = refl
nothing (x ∷ xs) e = absurd (omega (arith, e))

module _ (laws : Laws) (asked : SyncAsked) (before after : Side) (within : WithinSync asked) (fine : FineSync asked before after) where
  abbrev files : Files
  files = fine.side.files

  abbrev pair : Pair
  pair = pair_of asked

  still_between : (from until : ℕ) → before.count ≤ from → from ≤ until → until ≤ after.count → StoodStill from until
  still_between from until a b c = laws.still.between before.count from until after.count a b c fine.side.stood

  -- the walk of a side, over files that counted nothing
  walk_is : (top : List ℕ) (list : List Entry) (from : ℕ) (until : Side) → Valid top → before.count ≤ from → until.count ≤ after.count →
      Walked (top ∷ []) list (side_with before.tree from) until → (list ≡ walk files all_told top) × IsTree files
  walk_is top list from until v a c w =
      whole_walk laws.unique top list files from until v (subst (λ t. Walked (top ∷ []) list (side_with t from) until) fine.side.told w)
      (laws.still.none (sum_by weight_of list) from until.count w.counted (still_between from until.count a w.counted.kept c))

  own_top : fine.side.fine.roots ≡ asked.source ∷ []
  own_top = laws.unique (asked.source ∷ []) fine.side.fine.roots (asked.source ∷ []) (one_valid asked.source within.source) fine.side.fine.are
      (own_root asked.source)

  top_is : is_some (get files asked.source) ≡ true
  top_is = (recursion_from_All (λ root. is_some (get files root) ≡ true) (asked.source ∷ [])
      (subst (All (λ root. is_some (get files root) ≡ true)) own_top fine.side.fine.there)).0

  of_synced : (report : Report) → ReportsSynced asked before after report → report.failed ≡ 0
  of_synced report r =
      let s = r.surveys in
      let w = s.walks in
      let a = s.kept in
      let b = w.source.counted.kept in
      let d = w.destination.counted.kept in
      let e = r.syncs.blamed.kept in
      let source = walk_is asked.source r.source s.between (side_with before.tree w.between) within.source a (omega (arith, d, e)) w.source in
      let dest = walk_is asked.dest r.dest w.between (side_with before.tree r.walked) within.dest (omega (arith, a, b)) e w.destination in
      let silent = laws.names (asked.source ∷ []) r.source false (side_with before.tree s.between) (side_with before.tree w.between)
      (one_valid asked.source within.source) (record {
        files = files;
        told = fine.side.told;
        fine = fine.side.fine;
        stood = still_between s.between w.between a b (omega (arith, d, e));
      }) w.source in
      let silent' = dest_silent laws asked.dest r.dest files (side_with before.tree w.between) (side_with before.tree r.walked) within.dest fine.side.told
      w.destination dest.0 dest.1 fine.dest (still_between w.between r.walked (omega (arith, a, b)) d e) in
      let none = laws.still.none _ r.walked after.count r.syncs.blamed (still_between r.walked after.count (omega (arith, a, b, d)) e (omega arith)) in
      let synced : Synced pair r.source r.dest asked.delete r.done (Some files) after.tree =
      subst (λ t. Synced pair r.source r.dest asked.delete r.done t after.tree) fine.side.told r.syncs.synced in
      let failed = nothing r.done.failed (omega (arith, none)) in
      let changed : r.done.changed ≡ [] = synced.changed ∙ ap (map (λ m. m.path)) synced.compared.unchanged in
      let off = no_overlap (overlap (asked.source ∷ asked.dest ∷ [])) (is_dir (get files (parent_of asked.dest))) fine.placed in
      let parts = apart asked.source asked.dest off in
      let left = own_walk laws.ascends files asked.source source.1 within.source (not_root asked.dest asked.source within.dest parts.second) in
      let right = own_walk laws.ascends files asked.dest source.1 within.dest (not_root asked.source asked.dest within.source parts.first) in
      let entries = subst (All (IsFineEntry pair asked.delete files)) (sym source.0) fine.entries in
      let all = works.are_done laws.acts files pair asked.delete r.source r.dest r.done after.tree synced (record {
        left = subst (IsWalk files all_told asked.source) (sym source.0) left;
        right = subst (IsWalk files all_told asked.dest) (sym dest.0) right;
        left_near = subst (All (λ e. e.far ≡ 0)) (ap (flat_map (walk files all_told)) own_top ∙ append-nil (walk files all_told asked.source)
            ∙ sym source.0) fine.side.fine.near;
        right_near = subst (All (λ e. e.far ≡ 0)) (sym dest.0) fine.dest.near;
        no_other = λ k n l. (entries k n l).kind;
        compared = synced.compared;
      }) top_is entries off (record { source = within.source; target = within.dest })
      (omega (arith, none)) (omega (arith, none)) in
      r.counts ∙ ap length (laws.order.none r.notes (subst (λ given. AreInOrder given r.notes)
      (λ i. silent i ++ silent' i ++ path_notes why.FailedRead (failed i) ++ path_notes why.Changed (changed i)
      ++ laws.done.copies r.done.copies all.copies i ++ laws.done.removals r.done.removals all.removals i) r.names))

  names_nothing : (report : Report) → ReportsSync asked before after report → report.failed ≡ 0
  names_nothing report r =
      ⊎_elim (λ f. absurd (omega (arith, laws.still.none 1 before.count after.count f.blamed fine.side.stood))) (λ s. of_synced report s) r

  -- the source goes somewhere
  not_nowhere : (reason : Stop) → IsNowhere pair before.tree reason → ⊥
  not_nowhere stop.Overlap p = not_ok place.Overlap (sync_placed_over files pair.source pair.target)
      (told_due pair before.tree files (Err place.Overlap) fine.side.told p) fine.placed
  not_nowhere stop.NoDirectory p = not_ok place.NoDest (sync_placed_over files pair.source pair.target)
      (told_due pair before.tree files (Err place.NoDest) fine.side.told p) fine.placed
  not_nowhere reason p = absurd p

  -- the walk of the destination is not too long
  not_long : (from : ℕ) → before.count ≤ from → from ≤ after.count → IsTooLongWalk (asked.dest ∷ []) (side_with before.tree from) after → ⊥
  not_long from a b long =
      let is = (walk_is asked.dest long.entries from after within.dest a (omega arith) long.walked).0 in
      absurd (omega (arith, ap length is, long.many, fine.dest.few))

  stops_for_memory : (reason : Stop) → StopsSync asked before after reason → reason ≡ stop.OutOfMemory
  stops_for_memory reason stops =
      ⊎_elim (λ is. is) (λ s. ⊎_elim (λ n. absurd (not_nowhere reason n)) (λ w. ⊎_elim
      (λ first. laws.stops (asked.source ∷ []) (side_with before.tree w.between) after reason (one_valid asked.source within.source) (record {
        files = files;
        told = fine.side.told;
        fine = fine.side.fine;
        stood = still_between w.between after.count w.kept w.later (omega arith);
      }) first)
      (λ second. only_memory asked.dest (side_with before.tree second.between) after reason
      (not_long second.between (omega (arith, w.kept, second.source.counted.kept)) second.later) second.stops) w.stops) s.0) stops

pub sync_succeeds : Laws → FineSyncSucceeds
sync_succeeds laws asked before after within fine = record {
  names_nothing = names_nothing laws asked before after within fine;
  stops_for_memory = stops_for_memory laws asked before after within fine;
}
