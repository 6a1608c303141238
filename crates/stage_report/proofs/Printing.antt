-- A stage that goes on from a cut and ends prints what one walk prints.
use Rattle.stage_report.proofs.Prelude.{◌≡◌, ℕ, ◌≤◌, Bool, List, [], ◌∷◌, ◌++◌, length, Option, Some, None, refl, sym, ap, ◌∙◌, subst, arith, All}
use Rattle.stage_report.proofs.Prelude.{AllByRecursion, Contains, sum_by, flat_map, IsStrictlySortedBy, IsPermutation, recursion_from_All, All-from_recursion}
use Rattle.stage_report.proofs.Prelude.{sum_by-IsPermutation, path_cmp, Files, StoodStill, all_weaker, Entry, Field, Look, lines_of, Note, AreInOrder}
use Rattle.stage_report.proofs.Prelude.{OrderIsUnique, ListAsked, roots, Valid, walk, answers_in, weight_of, paths_of, IsRoots, RootsAreUnique, IsWalkOf}
use Rattle.stage_report.proofs.Prelude.{IsJoined, same_paths, in_list, of_all, Report, Side, side_with, newer_in, tests_in, chosen_of, Walked, Listed, InOrder}
use Rattle.stage_report.proofs.Prelude.{failures_in, ReportsList, summary_text, CheckpointsAreOne, RestartFindsTheWalk, SortsAreUnique, all_of, Begins}
use Rattle.stage_report.proofs.Prelude.{StagesPrintTheWalk, none_counted}
use Rattle.stage_report.proofs.Begun.{of_told, some_of, goes_on}

-- ---- counts

-- what lies within a count that stood still stood still
pub stood_within : (old from to new : ℕ) → old ≤ from → from ≤ to → to ≤ new → StoodStill old new → StoodStill from to
stood_within old from to new a b c stood =
    record { same = omega (arith, a, b, c, stood.same); below_end = omega (arith, b, c, stood.below_end) }

-- ---- roots

-- the roots of valid paths are valid
pub roots_valid : (given starts : List (List ℕ)) → All Valid given → IsRoots given starts → AllByRecursion Valid starts
roots_valid given starts valid are =
    let each = recursion_from_All Valid given valid in
    all_weaker (Contains given) Valid (λ x c. of_all Valid given x each (in_list given x c)) starts (recursion_from_All (Contains given) starts are.among)

-- starts that ascend have no other order in which they do
one_order : (starts ordered : List (List ℕ)) → IsStrictlySortedBy path_cmp starts → IsPermutation starts ordered →
    IsStrictlySortedBy path_cmp ordered → starts ≡ ordered
one_order starts ordered s p t = same_paths starts ordered s t (λ k. sym (sum_by-IsPermutation k starts ordered p))

-- the list is the walks of these paths, one after the other
abbrev AreWalks : Files → List (List ℕ) → List Entry → Type 0
AreWalks files starts list = list ≡ flat_map (walk files (answers_in list)) starts

walk_of : (files : Files) (starts : List (List ℕ)) (list : List Entry) → IsStrictlySortedBy path_cmp starts → AreWalks files starts list →
    IsWalkOf files list starts
walk_of files starts list s is ordered p t = is ∙ ap (flat_map (walk files (answers_in list))) (one_order starts ordered s p t)

-- ---- what a dwalk that nothing stopped found

-- nothing was looked at, where no path was
no_looks : (looks : List Look) → AllByRecursion (λ l. Contains [] l.path) looks → looks ≡ []
no_looks [] h = refl
no_looks (l ∷ looks) h = absurd (in_list [] l.path h.0)

record IsWhole (files : Files) (starts : List (List ℕ)) (chosen : List Entry) (notes : List Note) : Type 0 where
  walks : IsWalkOf files chosen starts
  fine : sum_by weight_of chosen ≡ 0
  rise : IsStrictlySortedBy path_cmp (paths_of chosen)
  names : AreInOrder (failures_in [] chosen) notes

whole : RootsAreUnique → (listed : ListAsked) (now : ℕ) (first last : Side) (report : Report) (files : Files) (given starts : List (List ℕ)) →
    first.tree ≡ Some files → All Valid given → IsRoots given starts → listed.start ≡ roots given → listed.chosen ≡ None →
    (r : ReportsList listed now first last report) → StoodStill first.count last.count → IsWhole files starts r.chosen r.notes
whole one listed now first last report files given starts told valid are begins all r stood =
    let survey = r.finds.survey in
    let looked = survey.looked in
    let looks : r.finds.looks ≡ [] =
    no_looks r.finds.looks (recursion_from_All (λ (l : Look). Contains [] l.path) r.finds.looks
    (subst (λ choice. All (λ (l : Look). Contains (newer_in choice) l.path) r.finds.looks) all looked.none_else)) in
    let w : Walked given r.finds.entries (side_with first.tree survey.between) (side_with first.tree r.found) =
    subst (λ start. Listed start r.finds.entries (side_with first.tree survey.between) (side_with first.tree r.found)) begins survey.listed in
    let same : w.roots ≡ starts = one given w.roots starts valid w.are are in
    let is = of_told (λ files. AreWalks files w.roots r.finds.entries) first.tree files told w.told in
    let walks = walk_of files starts r.finds.entries are.ascend (subst (λ rs. AreWalks files rs r.finds.entries) same is) in
    let still = stood_within first.count survey.between r.found last.count looked.counted.kept survey.later r.later stood in
    let chosen : r.finds.entries ≡ r.chosen =
    sym (r.finds.chooses ∙ ap (λ choice. chosen_of (tests_in choice) r.finds.looks now r.finds.entries) all) in
    let found : IsWhole files starts r.finds.entries r.notes =
    record {
      walks = walks;
      fine = none_counted (sum_by weight_of r.finds.entries) survey.between r.found w.counted still;
      rise = w.ascend;
      names = subst (λ ls. AreInOrder (failures_in ls r.finds.entries) r.notes) looks r.finds.names;
    } in
    subst (λ es. IsWhole files starts es r.notes) chosen found

-- ---- what is printed

one_printed : SortsAreUnique → (sort : Option (Field × Bool)) (list first second : List Entry) → IsStrictlySortedBy path_cmp (paths_of list) →
    InOrder sort list first → InOrder sort list second → first ≡ second
one_printed sorts None list first second rise p q = p ∙ sym q
one_printed sorts (Some o) list first second rise p q = sorts o.0 o.1 list first second rise p.0 p.1 q.0 q.1

-- the laws that this rests on
pub record Laws : Type 0 where
  pub one_roots : RootsAreUnique
  pub one_kept : CheckpointsAreOne
  pub restart : RestartFindsTheWalk
  pub sorts : SortsAreUnique
  pub notes : OrderIsUnique

pub stages_print_the_walk : Laws → StagesPrintTheWalk
stages_print_the_walk laws asked before after report files listed now first last whole_report other given starts told again cut none r stood
    told' same valid are begins all sort w stood' =
    let b = subst (λ s. Begins s asked.lists before r.was.begun.done r.was.begun.starts) again r.was.begun.begins in
    let on = goes_on laws.one_kept asked.lists before files r.was.begun.done cut.done r.was.begun.starts cut.left told
    (some_of cut.left cut.some_rank) cut.kept b in
    let f = r.was.finished in
    let later = f.later in
    let walks = of_told (λ files. IsWalkOf files later r.was.begun.starts) before.tree files told f.walked.told in
    let still = stood_within before.count r.was.begun.count r.was.found after.count r.was.begun.kept f.walked.counted.kept r.was.later stood in
    let is = whole laws.one_roots listed now first last whole_report other given starts told' valid are begins all w stood' in
    let list : r.was.list ≡ w.chosen =
    laws.restart cut.walked files other starts (all_of cut.left) cut.done later r.was.list w.chosen cut.tree
    (All-from_recursion Valid starts (roots_valid given starts valid are)) are.apart cut.same (λ q h. same q h ∙ cut.same q h) cut.cut
    (subst (IsWalkOf files later) (sym on.same_left) walks) (subst (λ d. IsJoined d later r.was.list) (sym on.same_done) f.joined) is.walks none
    (none_counted (sum_by weight_of later) r.was.begun.count r.was.found f.walked.counted still) is.fine in
    let printed : r.printed ≡ w.printed =
    one_printed laws.sorts asked.sort w.chosen r.printed w.printed is.rise (subst (λ es. InOrder asked.sort es r.printed) list r.order)
    (subst (λ s. InOrder s w.chosen w.printed) sort w.order) in
    let notes : r.notes ≡ w.notes =
    laws.notes (failures_in [] w.chosen) r.notes w.notes (subst (λ es. AreInOrder (failures_in [] es) r.notes) list r.names) is.names in
    r.prints ∙ (λ i. lines_of (printed i) ++ summary_text (list i) (length (notes i))) ∙ sym w.prints
