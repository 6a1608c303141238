-- What the lists and the results of a sync name has a note.
use Rattle.sync_report.proofs.Prelude.{◌≡◌, ⊎_elim, ℕ, zero, suc, Bool, true, false, not, cond, ◌||◌, ◌&&◌, nat_eq, Option, ◌⊎◌, List, [], ◌∷◌, ◌++◌, map}
use Rattle.sync_report.proofs.Prelude.{filter, refl, ap, ◌∙◌, sym, subst, arith, get_or, Some, None, IfSome, false≢true, and_from, and_parts, or_cases, or_left}
use Rattle.sync_report.proofs.Prelude.{or_right, false_from_ne_true, recursion_from_All, list_any-append, list_any_at, IsTrue, is_none, is_some, ◌==◌, All}
use Rattle.sync_report.proofs.Prelude.{AllByRecursion, Contains, flat_map, list_any, pointwise, below_of, is_within, tops_are_nested, Files, all_weaker, Entry}
use Rattle.sync_report.proofs.Prelude.{Mark, has_target, is_fine, is_of, is_shaped, is_sized, shape_by, Fate, is_gone, side, is_done, Pair, below_top, is_noted}
use Rattle.sync_report.proofs.Prelude.{is_under_some, named, noted, undone, Results, is_there, Note, Why, mark_whys, notes_of, number_whys, whys_of, AreInOrder}
use Rattle.sync_report.proofs.Prelude.{copy_notes, copy_whys, notes_by, on_side, removal_notes, removal_whys, IsReady, MakesEqual, AreEqualBut, dest_notes}
use Rattle.sync_report.proofs.Prelude.{entry_notes, is_named, path_notes, says_absent, says_gone, sync_failures, both, list_any-map}
use Rattle.outside.specs.declared.trees.Kind.TheVariants as kind
use Rattle.entry_pages.specs.declared.entries.Mark.TheVariants as mark
use Rattle.level_work.specs.declared.items.Fate.TheVariants as fate
use Rattle.tool_text.specs.declared.noting.Why.TheVariants as why
use Rattle.sync_report.proofs.Below.{apart}

-- ---- members

-- an element of a list that passes
record Member {X : Type 0} (f : X → Bool) (xs : List X) : Type 0 where
  one : X
  stands : Contains xs one
  passes : f one ≡ true

member : {X : Type 0} (f : X → Bool) (xs : List X) → list_any f xs ≡ true → Member f xs
member f [] e = absurd (false≢true e)
member f (x ∷ xs) e = elim (f x) as (λ b. f x ≡ b → (b || list_any f xs) ≡ true → Member f (x ∷ xs)) [
  | true ↦ λ is _. record { one = x; stands = (zero, omega arith, refl); passes = is }
  | false ↦ λ _ e.
      let m = member f xs e in
      record { one = m.one; stands = (suc m.stands.0, omega (arith, m.stands.1), m.stands.2); passes = m.passes }
] refl e

-- notes in their order are the given ones
in_order : (f : Note → Bool) (given notes : List Note) → AreInOrder given notes → list_any f given ≡ true → list_any f notes ≡ true
in_order f given notes are e =
    let m = member f given e in
    let c = (are.same m.one).0 m.stands in
    list_any_at f notes c.0 m.one c.1 (ap f c.2 ∙ m.passes)

-- ---- an entry of which not all was told

-- the first reason to name it, which is not that nothing is there
record Reason (whys : List Why) : Type 0 where
  first : Why
  more : List Why
  are : whys ≡ first ∷ more
  there : says_gone first ≡ false

begun : (w : Why) (more : List Why) → says_gone w ≡ false → Reason (w ∷ more)
begun w more e = record { first = w; more = more; are = refl; there = e }

by_numbers : (u f : ℕ) → (u == 0 && f == 0) ≡ false → Reason (number_whys why.Unnamed u ++ number_whys why.TooLong f)
by_numbers u f e =
    elim (u == 0) as (λ b. (b && f == 0) ≡ false → Reason (cond b [] (why.Unnamed u ∷ []) ++ number_whys why.TooLong f)) [
      | true ↦ λ e. elim (f == 0) as (λ b. b ≡ false → Reason (cond b [] (why.TooLong f ∷ [])))
          [ true ↦ λ e. absurd (false≢true (sym e)) | false ↦ λ _. begun (why.TooLong f) [] refl ] e
      | false ↦ λ _. begun (why.Unnamed u) (number_whys why.TooLong f) refl
    ] e

left_so : (s b : Bool) → s ≡ true → (not (s && true) || not b) ≡ true → b ≡ false
left_so true true is e = absurd (false≢true e)
left_so true false is e = refl
left_so false b is e = absurd (false≢true is)

by_mark : (m : Mark) (stat : Bool) (u f : ℕ) → (m ≡ mark.Fine → stat ≡ true) →
    (not (is_gone m) && (not (stat && is_fine m) || not (u == 0 && f == 0))) ≡ true →
    Reason (mark_whys m ++ number_whys why.Unnamed u ++ number_whys why.TooLong f)
by_mark mark.StatFailed stat u f fine e = begun why.FailedStat (number_whys why.Unnamed u ++ number_whys why.TooLong f) refl
by_mark mark.ListFailed stat u f fine e = begun why.FailedList (number_whys why.Unnamed u ++ number_whys why.TooLong f) refl
by_mark mark.Changed stat u f fine e = begun why.Changed (number_whys why.Unnamed u ++ number_whys why.TooLong f) refl
by_mark mark.Gone stat u f fine e = absurd (false≢true e)
by_mark mark.Fine stat u f fine e = by_numbers u f (left_so stat (u == 0 && f == 0) (fine refl) e)

fine_stat : (e : Entry) → is_shaped e ≡ true → e.mark ≡ mark.Fine → is_some e.stat ≡ true
fine_stat e h is =
    let none = e.unnamed == 0 && e.far == 0 in
    let shape = (and_parts (is_sized e.stat) (shape_by e.mark e.stat none)
    (and_parts (is_none e.target || has_target e.mark e.stat) (is_sized e.stat && shape_by e.mark e.stat none) h).1).1 in
    (and_parts (is_some e.stat) (is_of kind.Dir e.stat || none) (ap (λ m. shape_by m e.stat none) (sym is) ∙ shape)).0

reason : (e : Entry) → is_shaped e ≡ true → is_noted e ≡ true → Reason (whys_of e)
reason e h n = by_mark e.mark (is_some e.stat) e.unnamed e.far (fine_stat e h) n

-- ---- fates other than `Done`

copy_reason : (f : Fate) → not (is_done f) ≡ true → Reason (copy_whys f)
copy_reason fate.Done e = absurd (false≢true e)
copy_reason fate.Failed e = begun why.FailedCopy [] refl
copy_reason fate.Conflict e = begun why.Conflict [] refl
copy_reason fate.Skipped e = begun why.Skipped [] refl
copy_reason fate.ParentFailed e = begun why.Parent [] refl
copy_reason fate.TooLong e = begun why.LongTarget [] refl
copy_reason f e = begun why.Changed [] refl

removal_reason : (f : Fate) → not (is_done f) ≡ true → Reason (removal_whys f)
removal_reason fate.Done e = absurd (false≢true e)
removal_reason fate.Failed e = begun why.FailedRemove [] refl
removal_reason fate.NotEmpty e = begun why.NotEmpty [] refl
removal_reason f e = begun why.Changed [] refl

-- ---- the notes of what is named

-- there is a note of it that passes
record IsHit (f : Note → Bool) (path : List ℕ) (whys : List Why) : Type 0 where
  why : Reason whys
  passes : f (record { path = path; why = why.first; dest = false }) ≡ true

hit_first : (f : Note → Bool) (path : List ℕ) (whys : List Why) → IsHit f path whys → list_any f (notes_by path whys) ≡ true
hit_first f path whys h =
    subst (λ ws. list_any f (notes_by path ws) ≡ true) (sym h.why.are)
    (or_left (f (record { path = path; why = h.why.first; dest = false })) (list_any f (notes_by path h.why.more)) h.passes)

in_left : {X : Type 0} (f : X → Bool) (xs ys : List X) → list_any f xs ≡ true → list_any f (xs ++ ys) ≡ true
in_left f xs ys h = list_any-append f xs ys ∙ or_left (list_any f xs) (list_any f ys) h

in_right : {X : Type 0} (f : X → Bool) (xs ys : List X) → list_any f ys ≡ true → list_any f (xs ++ ys) ≡ true
in_right f xs ys h = list_any-append f xs ys ∙ or_right (list_any f xs) (list_any f ys) h

either : {X : Type 0} (f : X → Bool) (xs ys : List X) → list_any f (xs ++ ys) ≡ true → (list_any f xs ≡ true) ⊎ (list_any f ys ≡ true)
either f xs ys h = or_cases (list_any f xs) (list_any f ys) (sym (list_any-append f xs ys) ∙ h)

-- of some things each that counts and passes has such a note
any_hit : {X : Type 0} (f : Note → Bool) (counts passes : X → Bool) (at : X → List ℕ) (whys : X → List Why) (xs : List X) →
    AllByRecursion (λ x. counts x ≡ true → passes x ≡ true → IsHit f (at x) (whys x)) xs → list_any passes (filter counts xs) ≡ true →
    list_any f (flat_map (λ x. notes_by (at x) (whys x)) xs) ≡ true
any_hit f counts passes at whys [] h e = absurd (false≢true e)
any_hit f counts passes at whys (x ∷ xs) h e =
    let here = notes_by (at x) (whys x) in
    let rest = flat_map (λ x. notes_by (at x) (whys x)) xs in
    elim (counts x) as (λ b. counts x ≡ b → list_any passes (cond b (x ∷ filter counts xs) (filter counts xs)) ≡ true → list_any f (here ++ rest) ≡ true) [
      | true ↦ λ is e. ⊎_elim (λ first. in_left f here rest (hit_first f (at x) (whys x) (h.0 is first)))
          (λ later. in_right f here rest (any_hit f counts passes at whys xs h.1 later)) (or_cases (passes x) (list_any passes (filter counts xs)) e)
      | false ↦ λ _ e. in_right f here rest (any_hit f counts passes at whys xs h.1 e)
    ] refl e

any_filter : {X : Type 0} (f p : X → Bool) (xs : List X) → list_any (λ x. p x && f x) xs ≡ true → list_any f (filter p xs) ≡ true
any_filter f p [] e = e
any_filter f p (x ∷ xs) e =
    elim (p x) as (λ b. ((b && f x) || list_any (λ x. p x && f x) xs) ≡ true → list_any f (cond b (x ∷ filter p xs) (filter p xs)) ≡ true) [
      | true ↦ λ e. ⊎_elim (λ first. or_left (f x) (list_any f (filter p xs)) first)
          (λ later. or_right (f x) (list_any f (filter p xs)) (any_filter f p xs later)) (or_cases (f x) (list_any (λ x. p x && f x) xs) e)
      | false ↦ λ e. any_filter f p xs e
    ] e

-- ---- all of them

abbrev Row : Type 0
Row = List ℕ × Fate

module _ (pair : Pair) (source dest : List Entry) (tree : Option Files) (r : IsReady pair source dest tree) (p : List ℕ) where
  abbrev is_over : Note → Bool
  is_over n = is_within p (below_top pair n.path)

  abbrev over_path : List ℕ → Bool
  over_path q = is_within p (below_top pair q)

  below_source : (x : List ℕ) → is_within x pair.source ≡ true → below_top pair x ≡ below_of x pair.source
  below_source x w = ap (λ b. cond b (below_of x pair.source) (below_of x pair.target)) w

  below_dest : (x : List ℕ) → is_within x pair.target ≡ true → below_top pair x ≡ below_of x pair.target
  below_dest x w =
      let off = apart pair.source pair.target r.can.apart in
      ap (λ b. cond b (below_of x pair.source) (below_of x pair.target)) (false_from_ne_true (is_within x pair.source) (λ h.
      ⊎_elim (λ a. false≢true (sym off.first ∙ a)) (λ a. false≢true (sym off.second ∙ a)) (tops_are_nested x pair.source pair.target r.from r.to h w)))

  -- the notes of a list, by a test that passes the note of each noted entry at or over the path
  of_list : (f : Note → Bool) (top : List ℕ) (list : List Entry) → All (λ e. is_shaped e ≡ true) list → All (λ e. IsTrue (is_within e.path top)) list →
      ((e : Entry) (w : Why) → is_within e.path top ≡ true → says_gone w ≡ false → is_within p (below_of e.path top) ≡ true →
      f (record { path = e.path; why = w; dest = false }) ≡ true) →
      list_any (is_within p) (noted (side top list)) ≡ true → list_any f (entry_notes list) ≡ true
  of_list f top list shaped within passes e =
      list_any-map f (on_side false) (notes_of list)
      ∙ any_hit (λ n. f (on_side false n)) is_noted (λ (e : Entry). is_within p (below_of e.path top)) (λ (e : Entry). e.path) whys_of list
      (all_weaker (λ e. (is_shaped e ≡ true) × IsTrue (is_within e.path top))
      (λ e. is_noted e ≡ true → is_within p (below_of e.path top) ≡ true → IsHit (λ n. f (on_side false n)) e.path (whys_of e))
      (λ e h n o. let why = reason e h.0 n in record { why = why; passes = passes e why.first h.1 why.there o }) list
      (both (λ e. is_shaped e ≡ true) (λ e. IsTrue (is_within e.path top)) list (recursion_from_All (λ (e : Entry). is_shaped e ≡ true) list shaped)
      (recursion_from_All (λ (e : Entry). IsTrue (is_within e.path top)) list within)))
      (sym (list_any-map (is_within p) (λ (e : Entry). below_of e.path top) (filter is_noted list)) ∙ e)

  of_source : list_any (is_within p) (noted (side pair.source source)) ≡ true → list_any is_over (entry_notes source) ≡ true
  of_source =
      of_list is_over pair.source source r.source_shaped r.can.left.within (λ e w on there o. ap (is_within p) (below_source e.path on) ∙ o)

  of_dest : list_any (is_within p) (noted (side pair.target dest)) ≡ true → list_any is_over (dest_notes pair.target dest) ≡ true
  of_dest h =
      any_filter is_over (λ n. not (says_absent pair.target n)) (entry_notes dest)
      (of_list (λ n. not (says_absent pair.target n) && is_over n) pair.target dest r.dest_shaped r.can.right.within
      (λ e w on there o. and_from (not (says_absent pair.target (record { path = e.path; why = w; dest = false }))) _
      (ap (λ b. not (b && pointwise nat_eq e.path pair.target)) there) (ap (is_within p) (below_dest e.path on) ∙ o)) h)

  of_paths : (w : Why) (qs : List (List ℕ)) → list_any over_path qs ≡ true → list_any is_over (path_notes w qs) ≡ true
  of_paths w qs h = list_any-map is_over (λ q. record { path = q; why = w; dest = false }) qs ∙ h

  of_rows : (whys : Fate → List Why) → ((f : Fate) → not (is_done f) ≡ true → Reason (whys f)) → (rows : List Row) →
      list_any over_path (undone rows) ≡ true → list_any is_over (flat_map (λ (row : Row). notes_by row.0 (whys row.1)) rows) ≡ true
  of_rows whys reasons rows h =
      any_hit is_over (λ (row : Row). not (is_done row.1)) (λ (row : Row). over_path row.0) (λ (row : Row). row.0) (λ (row : Row). whys row.1) rows
      (each rows) (sym (list_any-map over_path (λ (row : Row). row.0) (filter (λ (row : Row). not (is_done row.1)) rows)) ∙ h)
    where
      each : (rows : List Row) → AllByRecursion (λ row. not (is_done row.1) ≡ true → over_path row.0 ≡ true → IsHit is_over row.0 (whys row.1)) rows
      each [] = tt
      each (row ∷ rows) = ((λ n o. record { why = reasons row.1 n; passes = o }), each rows)

  has_note : (done : Results) → list_any (is_within p) (named pair source dest done) ≡ true → list_any is_over (sync_failures pair source dest done) ≡ true
  has_note done h =
      ⊎_elim (λ n. of_lists (⊎_elim (λ s. in_left is_over (entry_notes source) (dest_notes pair.target dest) (of_source s))
      (λ d. in_right is_over (entry_notes source) (dest_notes pair.target dest) (of_dest d))
      (either (is_within p) (noted (side pair.source source)) (noted (side pair.target dest)) n)))
      (λ h. ⊎_elim (λ h. ⊎_elim (λ h. ⊎_elim (λ f. before_changed (in_right is_over lists unread (of_paths why.FailedRead done.failed f)))
      (λ c. before_copies (in_right is_over (lists ++ unread) altered (of_paths why.Changed done.changed c)))
      (either over_path done.failed done.changed h))
      (λ c. in_left is_over (before ++ copied) (removal_notes done.removals) (in_right is_over before copied (of_rows copy_whys copy_reason done.copies c)))
      (either over_path (done.failed ++ done.changed) (undone done.copies) h))
      (λ c. in_right is_over (before ++ copied) (removal_notes done.removals) (of_rows removal_whys removal_reason done.removals c))
      (either over_path (done.failed ++ done.changed ++ undone done.copies) (undone done.removals)
      (sym (list_any-map (is_within p) (below_top pair) results) ∙ h)))
      (either (is_within p) (noted (side pair.source source) ++ noted (side pair.target dest)) (map (below_top pair) results) h)
    where
      lists : List Note
      lists = entry_notes source ++ dest_notes pair.target dest

      unread : List Note
      unread = path_notes why.FailedRead done.failed

      altered : List Note
      altered = path_notes why.Changed done.changed

      before : List Note
      before = lists ++ unread ++ altered

      copied : List Note
      copied = copy_notes done.copies

      results : List (List ℕ)
      results = done.failed ++ done.changed ++ undone done.copies ++ undone done.removals

      before_copies : list_any is_over before ≡ true → list_any is_over (before ++ copied ++ removal_notes done.removals) ≡ true
      before_copies h = in_left is_over (before ++ copied) (removal_notes done.removals) (in_left is_over before copied h)

      before_changed : list_any is_over (lists ++ unread) ≡ true → list_any is_over (before ++ copied ++ removal_notes done.removals) ≡ true
      before_changed h = before_copies (in_left is_over (lists ++ unread) altered h)

      of_lists : list_any is_over lists ≡ true → list_any is_over (before ++ copied ++ removal_notes done.removals) ≡ true
      of_lists h = before_changed (in_left is_over lists unread h)

  -- so a path that is not at or under that of a note is not at or under what is named
  pub not_named : (done : Results) (notes : List Note) → AreInOrder (sync_failures pair source dest done) notes → is_named pair notes p ≡ false →
      is_under_some (named pair source dest done) p ≡ false
  not_named done notes are off = false_from_ne_true (is_under_some (named pair source dest done) p)
      (λ h. false≢true (sym off ∙ in_order is_over (sync_failures pair source dest done) notes are (has_note done h)))

-- so both trees are equal but for the paths of the notes
pub named_equal : (pair : Pair) (source dest : List Entry) (tree new : Option Files) (delete : Bool) (done : Results) (notes : List Note) →
    IsReady pair source dest tree → AreInOrder (sync_failures pair source dest done) notes → MakesEqual pair source dest delete done new →
    IfSome new (λ files. is_there (side pair.source source) ≡ true → AreEqualBut (is_named pair notes) pair delete files)
named_equal pair source dest tree None delete done notes r are h = tt
named_equal pair source dest tree (Some files) delete done notes r are h = λ there found compared k row l off.
    h there found compared k row l (not_named pair source dest tree r (get_or found.rows k row).path done notes are off)
