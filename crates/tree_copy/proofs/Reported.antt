-- What a copy reports, from what its parts tell.
use Rattle.tree_copy.proofs.Prelude.{◌≡◌, ◌∙◌, ℕ, ◌≤◌, Bool, true, false, cond, List, [], ◌∷◌, map, length, Option, Some, None, IfSome, refl, ap, sym, subst}
use Rattle.tree_copy.proofs.Prelude.{arith, slice_get, length-map, length-filter, sum_by-cons, firsts-zip, Result, Ok, Err, IfOk, All, AllByRecursion, count_by}
use Rattle.tree_copy.proofs.Prelude.{sum_by, zip, refusal, parent_of, Asks, Writes, RoseBy, IsTreeIn, UnderDirectories, Files, Area, nothing_lent, Entry}
use Rattle.tree_copy.proofs.Prelude.{bytes_by, paths, MakesDirs, is_failed, is_done, Acted, AreItems, ParentsFail, SameButItems, StandIn, Item, Fate, Pair}
use Rattle.tree_copy.proofs.Prelude.{HaveCauses, AreEarly, CanCopy, Copied, FitsTree, SameButTargets, bytes_copied, treated, IsPair, AllMayCopy, CopyOne}
use Rattle.tree_copy.proofs.Prelude.{any_odd, bytes_of, fates_of, fitting, has_room, is_other, items_of, placed_of, settled_by}
use Rattle.level_work.specs.declared.items.Fate.TheVariants as fate
use Rattle.level_work.specs.declared.items.Order.TheVariants as order
use Rattle.tree_copy.proofs.Comes.{Comes, Row, all_come, are_early, are_marks, items_are, items_by, rows_by}
use Rattle.tree_copy.proofs.Copies.{copied, others}
use Rattle.tree_copy.proofs.Fits.{Known, are_items, makes_dirs, parent_short, stand_in}
use Rattle.tree_copy.proofs.Shown.{all_even, all_shown, items_have_stats}
use Rattle.tree_copy.proofs.Tallies.{fates_len}

-- the items that were made, under the name by which they were passed on
pub record Made (list : List Entry) (pairs : List Pair) (made items : List Item) : Type 0 where
  pub can : CanCopy list pairs
  pub valid : All (λ e. refusal e.path ≡ None) list
  pub ends : All IsPair pairs
  pub paths : All (λ x. refusal x.path ≡ None) made
  pub are : made ≡ items_of pairs list
  pub same : items ≡ made

-- by what is known of each part
pub all_made : (list : List Entry) (pairs : List Pair) (made items : List Item) → CanCopy list pairs → All (λ e. refusal e.path ≡ None) list →
    All IsPair pairs → All (λ x. refusal x.path ≡ None) made → made ≡ items_of pairs list → items ≡ made → Made list pairs made items
all_made list pairs made items can valid ends paths are same =
    record { can = can; valid = valid; ends = ends; paths = paths; are = are; same = same }

module _ (list : List Entry) (pairs : List Pair) (made items : List Item) (m : Made list pairs made items) where
  known : Known list pairs
  known = record { can = m.can; valid = m.valid; ends = m.ends; paths = subst (λ xs. All (λ (x : Item). refusal x.path ≡ None) xs) m.are m.paths }

  pub fit : AreItems items
  fit = subst AreItems (sym (m.same ∙ m.are)) (are_items list pairs known)

  pub stand : (t : Option Files) → IfSome t (FitsTree list pairs) → IfSome t (StandIn order.TopDown items)
  stand None f = tt
  stand (Some before) f = subst (λ xs. StandIn order.TopDown xs before) (sym (m.same ∙ m.are)) (stand_in list pairs known before f)

  pub dirs : UnderDirectories → (t : Option Files) → IfSome t (IsTreeIn nothing_lent) → IfSome t (FitsTree list pairs) →
      IfSome t (λ before. MakesDirs order.TopDown (CopyOne before) items before)
  dirs law None tree f = tt
  dirs law (Some before) tree f = subst (λ xs. MakesDirs order.TopDown (CopyOne before) xs before) (sym (m.same ∙ m.are))
      (makes_dirs list pairs known law before tree f)

  pub rest : (t t' : Option Files) → IfSome t (λ before. IfSome t' (SameButItems items before)) →
      IfSome t (λ before. IfSome t' (SameButTargets pairs list before))
  rest None t' h = tt
  rest (Some before) None h = tt
  rest (Some before) (Some after) h = others list pairs items before after (m.same ∙ m.are) h

  pub acted_rest : (outs : List Fate) (t t' : Option Files) → IfSome t (λ before. IfSome t' (Acted (CopyOne before) order.TopDown items outs before)) →
      IfSome t (λ before. IfSome t' (SameButTargets pairs list before))
  acted_rest outs None t' h = tt
  acted_rest outs (Some before) None h = tt
  acted_rest outs (Some before) (Some after) h = others list pairs items before after (m.same ∙ m.are) h.others

-- as many items as marks that say so

count_marks : (p : Entry → Bool) (es : List Entry) → count_by p es ≡ count_by (λ m. m) (map p es)
count_marks p [] = refl
count_marks p (e ∷ es) = let h =
    count_marks p es in omega (arith, h, sum_by-cons (λ (e : Entry). cond (p e) 1 0) e es, sum_by-cons (λ (m : Bool). cond m 1 0) (p e) (map p es))

pub marked : (list : List Entry) (pairs : List Pair) (items : List Item) (fits : List Bool) (outs : List Fate) → items ≡ items_of pairs list →
    fits ≡ map (has_room pairs) (treated list) →
    length outs ≡ length items → length outs ≡ count_by (λ fit. fit) fits
marked list pairs items fits outs are marks len =
    len ∙ ap length are ∙ length-map (placed_of pairs list) (Rattle.tree_copy.specs.PrivateSettling.item_of pairs)
    ∙ length-filter (has_room pairs) (treated list)
    ∙ count_marks (has_room pairs) (treated list) ∙ ap (count_by (λ m. m)) (sym marks)

-- the paths of the entries that have items
fit_paths : (pairs : List Pair) (marks : List Bool) (es : List Entry) → map (λ x. x.entry.path) (items_by pairs marks es) ≡ fitting marks (paths es)
fit_paths pairs [] es = refl
fit_paths pairs (m ∷ marks) [] = refl
fit_paths pairs (true ∷ marks) (e ∷ es) = ap (λ r. e.path ∷ r) (fit_paths pairs marks es)
fit_paths pairs (false ∷ marks) (e ∷ es) = fit_paths pairs marks es

pub fitted : (list : List Entry) (pairs : List Pair) (items : List Item) (fits : List Bool) → items ≡ items_of pairs list →
    fits ≡ map (has_room pairs) (treated list) →
    map (λ x. x.entry.path) items ≡ fitting fits (paths (treated list))
fitted list pairs items fits are marks =
    ap (map (λ (x : Item). x.entry.path)) (are ∙ sym (items_are pairs (treated list)))
    ∙ fit_paths pairs (map (has_room pairs) (treated list)) (treated list)
    ∙ ap (λ m. fitting m (paths (treated list))) (sym marks)

pub marks_len : (list : List Entry) (pairs : List Pair) (fits : List Bool) → fits ≡ map (has_room pairs) (treated list) →
    length fits ≡ length (treated list)
marks_len list pairs fits marks = ap length marks ∙ length-map (treated list) (has_room pairs)

-- what is known once the fates are settled
pub record Run (list : List Entry) (pairs : List Pair) (made items : List Item) (fits : List Bool) (outs : List Fate) : Type 0 where
  pub given : Made list pairs made items
  pub marks : fits ≡ map (has_room pairs) (treated list)
  pub len : length outs ≡ length items
  pub fail : ParentsFail order.TopDown items outs

pub all_run : (list : List Entry) (pairs : List Pair) (made items : List Item) (fits marks : List Bool) (outs : List Fate) → Made list pairs made items →
    fits ≡ marks → marks ≡ map (has_room pairs) (treated list) → length outs ≡ length items → ParentsFail order.TopDown items outs →
    Run list pairs made items fits outs
all_run list pairs made items fits marks outs given same are len fail = record { given = given; marks = same ∙ are; len = len; fail = fail }

module _ {R S : Type 0} (asks : Asks R) (gives : Writes S) (list : List Entry) (pairs : List Pair) (made items : List Item) (fits : List Bool)
    (outs : List Fate) (r : Run list pairs made items fits outs) (may : AllMayCopy asks gives items outs) where
  by_marks : items_by pairs fits (treated list) ≡ items_of pairs list
  by_marks = ap (λ m. items_by pairs m (treated list)) r.marks ∙ items_are pairs (treated list)

  same_items : items ≡ items_by pairs fits (treated list)
  same_items = r.given.same ∙ r.given.are ∙ sym by_marks

  may_come : AllMayCopy asks gives (items_by pairs fits (treated list)) outs
  may_come = subst (λ xs. AllMayCopy asks gives xs outs) same_items may

  even : any_odd fits (treated list) outs ≡ false
  even = all_even asks gives pairs fits (treated list) outs (r.len ∙ ap length same_items) may_come

  come : AllByRecursion (λ (one : Row). Comes pairs (rows_by fits (treated list) outs) (items_by pairs fits (treated list)) outs one.0 one.1.1)
      (zip (treated list) (rows_by fits (treated list) outs))
  come =
      all_come pairs fits (treated list) outs (subst (λ m. Rattle.tree_copy.proofs.Comes.AreMarks pairs m (treated list)) (sym r.marks)
      (are_marks pairs (treated list))) (r.len ∙ ap length same_items) even
      (subst (λ xs. ParentsFail order.TopDown xs outs) same_items r.fail)
      (subst (λ xs. (k : ℕ) (x : Item) → slice_get xs k ≡ Some x → length (parent_of x.path) ≤ 4095) (sym by_marks)
      (parent_short list pairs (known list pairs made items r.given)))

  pub early : AreEarly list pairs (rows_by fits (treated list) outs)
  early = are_early pairs (rows_by fits (treated list) outs) (items_by pairs fits (treated list)) outs
      (zip (treated list) (rows_by fits (treated list) outs)) come

  pub causes : {G : Type 0} (own : Writes G) (area : G → Area) (count : G → ℕ) →
      HaveCauses asks gives own area count list pairs (rows_by fits (treated list) outs)
  causes own area count = all_shown asks gives pairs own area count (rows_by fits (treated list) outs) (items_by pairs fits (treated list)) outs
      (λ k x at. items_have_stats pairs list k x (ap (λ xs. slice_get xs k) (sym by_marks) ∙ at)) may_come
      (zip (treated list) (rows_by fits (treated list) outs)) come

  pub told : (t t' : Option Files) → IfSome t (FitsTree list pairs) →
      IfSome t (λ before. IfSome t' (Acted (CopyOne before) order.TopDown items outs before)) →
      IfSome t (λ before. IfSome t' (Copied list pairs (rows_by fits (treated list) outs) before))
  told None t' f h = tt
  told (Some before) None f h = tt
  told (Some before) (Some after) f h =
      copied list pairs (rows_by fits (treated list) outs) (items_by pairs fits (treated list)) outs before after by_marks f
      (subst (λ xs. Acted (CopyOne before) order.TopDown xs outs before after) same_items h) come

-- the numbers

count_rows : (p : Fate → Bool) (ks : List (List ℕ)) (fates : List Fate) → length fates ≡ length ks →
    count_by p fates ≡ count_by (λ row. p row.1) (zip ks fates)
count_rows p [] [] len = refl
count_rows p [] (f ∷ fates) len = absurd (omega (arith, len))
count_rows p (q ∷ ks) [] len = absurd (omega (arith, len))
count_rows p (q ∷ ks) (f ∷ fates) len =
    let rest = count_rows p ks fates (omega (arith, len)) in
    omega (
      arith,
      rest,
      sum_by-cons (λ (x : Fate). cond (p x) 1 0) f fates,
      sum_by-cons (λ (row : List ℕ × Fate). cond (p row.1) 1 0) (q, f)
          (zip ks fates),
    )

bytes_rows : (es : List Entry) (fates : List Fate) → length fates ≡ length es →
    bytes_of es fates ≡ sum_by (λ (one : Row). cond (is_done one.1.1) (bytes_by one.0.stat) 0) (zip es (zip (paths es) fates))
bytes_rows [] [] len = refl
bytes_rows [] (f ∷ fates) len = absurd (omega (arith, len))
bytes_rows (e ∷ es) [] len = absurd (omega (arith, len))
bytes_rows (e ∷ es) (f ∷ fates) len =
    let rest = bytes_rows es fates (omega (arith, len)) in
    omega (arith, rest, sum_by-cons (λ (one : Row). cond (is_done one.1.1) (bytes_by one.0.stat) 0) (e, (e.path, f)) (zip es (zip (paths es) fates)))

failed_by : (b : Bool) (g : Fate) → cond (is_failed (settled_by b g)) 1 0 ≤ cond (is_failed g) 1 0
failed_by true fate.Done = omega arith
failed_by true fate.Failed = omega arith
failed_by true fate.Conflict = omega arith
failed_by true fate.Skipped = omega arith
failed_by true fate.ParentFailed = omega arith
failed_by true fate.Changed = omega arith
failed_by true fate.NotEmpty = omega arith
failed_by true fate.TooLong = omega arith
failed_by false fate.Done = omega arith
failed_by false fate.Failed = omega arith
failed_by false fate.Conflict = omega arith
failed_by false fate.Skipped = omega arith
failed_by false fate.ParentFailed = omega arith
failed_by false fate.Changed = omega arith
failed_by false fate.NotEmpty = omega arith
failed_by false fate.TooLong = omega arith

failed_fewer : (marks : List Bool) (es : List Entry) (outs : List Fate) → count_by is_failed (fates_of marks es outs) ≤ count_by is_failed outs
failed_fewer [] es outs = omega arith
failed_fewer (m ∷ marks) [] outs = omega arith
failed_fewer (true ∷ marks) (e ∷ es) [] =
    let h = failed_fewer marks es [] in
    let n = failed_by (is_other e) fate.Skipped in
    omega (arith, h, n, sum_by-cons (λ (x : Fate). cond (is_failed x) 1 0) (settled_by (is_other e) fate.Skipped) (fates_of marks es []))
failed_fewer (true ∷ marks) (e ∷ es) (g ∷ outs) =
    let h = failed_fewer marks es outs in
    let n = failed_by (is_other e) g in
    omega (
      arith,
      h,
      n,
      sum_by-cons (λ (x : Fate). cond (is_failed x) 1 0) (settled_by (is_other e) g) (fates_of marks es outs),
      sum_by-cons
          (λ (x : Fate). cond (is_failed x) 1 0) g outs,
    )
failed_fewer (false ∷ marks) (e ∷ es) outs =
    let h = failed_fewer marks es outs in
    omega (arith, h, sum_by-cons (λ (x : Fate). cond (is_failed x) 1 0) fate.TooLong (fates_of marks es outs))

module _ (list : List Entry) (fits : List Bool) (outs : List Fate) (len : length fits ≡ length (treated list)) where
  fates_count : length (fates_of fits (treated list) outs) ≡ length (paths (treated list))
  fates_count = fates_len fits (treated list) outs len ∙ sym (length-map (treated list) (λ (e : Entry). e.path))

  pub row_paths : map (λ row. row.0) (rows_by fits (treated list) outs) ≡ paths (treated list)
  row_paths = firsts-zip (paths (treated list)) (fates_of fits (treated list) outs) fates_count

  pub done_rows : count_by is_done (fates_of fits (treated list) outs) ≡ count_by (λ row. is_done row.1) (rows_by fits (treated list) outs)
  done_rows = count_rows is_done (paths (treated list)) (fates_of fits (treated list) outs) fates_count

  pub all_bytes : bytes_of (treated list) (fates_of fits (treated list) outs) ≡ bytes_copied list (rows_by fits (treated list) outs)
  all_bytes = bytes_rows (treated list) (fates_of fits (treated list) outs) (fates_len fits (treated list) outs len)

  pub rose : (old new : ℕ) → RoseBy (count_by is_failed outs) old new →
      RoseBy (count_by (λ row. is_failed row.1) (rows_by fits (treated list) outs)) old new
  rose old new r =
      let fewer = failed_fewer fits (treated list) outs in
      let same = count_rows is_failed (paths (treated list)) (fates_of fits (treated list) outs) fates_count in
      record { kept = r.kept; rose = let h = r.rose in omega (arith, h, fewer, same) }

pub both_ok : {X E : Type 0} (P Q R : X → Type 0) (r : Result X E) → ((x : X) → P x → Q x → R x) → IfOk r P → IfOk r Q → IfOk r R
both_ok P Q R (Ok x) h p q = h x p q
both_ok P Q R (Err e) h p q = tt
