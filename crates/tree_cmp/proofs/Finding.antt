-- The findings that settled rows make are those of the two sides.
use Rattle.tree_cmp.proofs.Prelude.{◌≡◌, ℕ, ◌+◌, Bool, true, false, ◌||◌, List, [], ◌∷◌, ◌++◌, map, refl, sym, subst, ap, ◌∙◌, cond, eqb, Option, Some, None}
use Rattle.tree_cmp.proofs.Prelude.{is_some, IfSome, All, AllByRecursion, list_any, filter_map, cons_option, get, option_map, pointwise, bytes_decides, Less}
use Rattle.tree_cmp.proofs.Prelude.{recursion_from_All, All-from_recursion, All-append, list_any-append, path_cmp, below_of, grafted, GraftUndoesBelow, Asks}
use Rattle.tree_cmp.proofs.Prelude.{Files, Entry, size_by, Item, Draft, Missing, Outcome, Missed, Row, Side, IsSide, entry_at, is_shown, stat_at, is_read}
use Rattle.tree_cmp.proofs.Prelude.{sizes, unread, kinds, exist_of, same_bytes, IsRow, row_path, is_missed, WasToBeRead, IsComparison, StatsTold, items_of, at}
use Rattle.tree_cmp.proofs.Prelude.{to_read, links_at, content_before, draft_of, AreDrafts, paths, is_row, IsFileOf, Told, ToldAt, IsOf, IsSettled, unsettled}
use Rattle.tree_cmp.proofs.Prelude.{row_by, side_missed, missed_at, missed_by, findings_of, false_from_ne_true, irreflexive}
use Rattle.std.specs.List.Sorted.{IsStrictlySortedBy}
use Rattle.tree_cmp.specs.declared.reading.Missing.TheVariants as missing
use Rattle.tree_cmp.specs.declared.reading.Outcome.TheVariants as outcome
use Rattle.tree_cmp.proofs.Sided.{some-items, stat-items, shown-items}
use Rattle.tree_cmp.proofs.Taken.{rows_there}
use Rattle.tree_cmp.proofs.OneRow.{Stands, stands, file_at, AreRead, are_read, AreEntries, are_entries}
use Rattle.tree_cmp.proofs.OneRow.{gave_nothing, true_not_false, unread_none, content_row, of_map, side_is, not_both_missed, one_or_other}

-- ---- rows as they were

all_unmapped_drafts : (P : Draft → Type 0) (ds : List Draft) → AllByRecursion P (map unsettled ds) → AllByRecursion (λ d. P (unsettled d)) ds
all_unmapped_drafts P [] h = tt
all_unmapped_drafts P (d ∷ ds) h = (h.0, all_unmapped_drafts P ds h.1)

is_row-unsettled : (p : List ℕ) (ds : List Draft) → is_row p (map unsettled ds) ≡ is_row p ds
is_row-unsettled p [] = refl
is_row-unsettled p (d ∷ ds) = ap (λ b. pointwise eqb d.row.path p || b) (is_row-unsettled p ds)

is_row-rows : (p : List ℕ) (ds : List Draft) → list_any (λ (row : Row). pointwise eqb row.path p) (map row_by ds) ≡ is_row p ds
is_row-rows p [] = refl
is_row-rows p (d ∷ ds) = ap (λ b. pointwise eqb d.row.path p || b) (is_row-rows p ds)

paths-unsettled : (ds : List Draft) → paths (map unsettled ds) ≡ paths ds
paths-unsettled [] = refl
paths-unsettled (d ∷ ds) = ap (λ ps. d.row.path ∷ ps) (paths-unsettled ds)

paths-rows : (ds : List Draft) → map (λ (row : Row). row.path) (map row_by ds) ≡ paths ds
paths-rows [] = refl
paths-rows (d ∷ ds) = ap (λ ps. d.row.path ∷ ps) (paths-rows ds)

-- ---- the rows of two sides that were settled

module _ (law : GraftUndoesBelow) {S : Type 0} (gives : Asks S) (tree : Option Files) (l r : Side) (left : IsSide l) (right : IsSide r)
    (told_left : IfSome tree (λ files. StatsTold files l.entries)) (told_right : IfSome tree (λ files. StatsTold files r.entries)) where
  -- what is known of a settled row
  record Settled (d : Draft) : Type 0 where
    shown : is_shown l r d.row.path ≡ true
    exist : d.row.exist ≡ exist_of (is_some (entry_at l d.row.path)) (is_some (entry_at r d.row.path))
    kind : d.row.kind ≡ kinds (stat_at (entry_at l d.row.path)) (stat_at (entry_at r d.row.path))
    size : d.row.size ≡ sizes (stat_at (entry_at l d.row.path)) (stat_at (entry_at r d.row.path))
    content : d.row.content ≡ unread (entry_at l d.row.path) (entry_at r d.row.path)
    bytes : d.unread ≡ to_read (stat_at (entry_at l d.row.path)) (stat_at (entry_at r d.row.path))
    outcome : IsSettled gives tree l.top r.top d

  abbrev L : List Item
  L = items_of l.top l.entries

  abbrev R : List Item
  R = items_of r.top r.entries

  settled_row : (d : Draft) → unsettled d ≡ draft_of (links_at l r d.row.path) d.row.path (at d.row.path L) (at d.row.path R)
      → is_shown l r d.row.path ≡ true → IsSettled gives tree l.top r.top d → Settled d
  settled_row d e s o =
      let p = d.row.path in
      let ll = stat-items l.top p l.entries in
      let rr = stat-items r.top p r.entries in
      record {
        shown = s;
        exist = ap (λ (x : Draft). x.row.exist) e ∙ (λ i. exist_of (some-items l.top p l.entries i) (some-items r.top p r.entries i));
        kind = ap (λ (x : Draft). x.row.kind) e ∙ (λ i. kinds (ll i) (rr i));
        size = ap (λ (x : Draft). x.row.size) e ∙ (λ i. sizes (ll i) (rr i));
        content = ap (λ (x : Draft). x.row.content) e ∙ (λ i. content_before (links_at l r p) (ll i) (rr i));
        bytes = ap (λ (x : Draft). x.unread) e ∙ (λ i. to_read (ll i) (rr i));
        outcome = o;
      }

  -- an outcome is of two files that were to be read
  was_read : (d : Draft) → Settled d → (o : Outcome) → d.outcome ≡ Some o
      → is_read (stat_at (entry_at l d.row.path)) (stat_at (entry_at r d.row.path)) ≡ true
  was_read d s o e =
      elim (is_read (stat_at (entry_at l d.row.path)) (stat_at (entry_at r d.row.path))) as
      (λ b. is_read (stat_at (entry_at l d.row.path)) (stat_at (entry_at r d.row.path)) ≡ b → b ≡ true) [
        | true ↦ λ x. refl
        | false ↦ λ x. absurd (true_not_false
            (sym (ap is_some e) ∙ sym s.outcome.all ∙ ap is_some s.bytes
            ∙ unread_none (stat_at (entry_at l d.row.path)) (stat_at (entry_at r d.row.path)) x))
      ] refl

  -- what reading them came to, in the tree that is told
  told_of : (files : Files) → StatsTold files l.entries → StatsTold files r.entries → (d : Draft) → Settled d → (o : Outcome)
      → d.outcome ≡ Some o → IsSettled gives (Some files) l.top r.top d →
      (e : AreEntries (entry_at l d.row.path) (entry_at r d.row.path)) → Told (get files (AreEntries.one e).path) (get files (AreEntries.other e).path) o
  told_of files tl tr d s o is settled e =
      let p = d.row.path in
      let read = was_read d s o is in
      let f = are_read (stat_at (entry_at l p)) (stat_at (entry_at r p)) read in
      let one = AreEntries.one e in
      let other = AreEntries.other e in
      let own : IsOf gives (Some files) l.top r.top p d.unread o = subst (λ x. IfSome x (IsOf gives (Some files) l.top r.top p d.unread)) is settled.own in
      let bytes : d.unread ≡ Some (AreRead.one f).size = s.bytes ∙ (λ i. cond (read i) (Some (size_by (stat_at (entry_at l p)))) None)
      ∙ ap (λ x. Some (size_by x)) (AreRead.one_is f) in
      let told : ToldAt (Some files) l.top r.top p (AreRead.one f).size o =
      subst (λ x. IfSome x (λ size. ToldAt (Some files) l.top r.top p size o)) bytes own.told in
      let has_one : one.stat ≡ Some (AreRead.one f) = ap stat_at (sym (AreEntries.one_is e)) ∙ AreRead.one_is f in
      let has_other : other.stat ≡ Some (AreRead.other f) = ap stat_at (sym (AreEntries.other_is e)) ∙ AreRead.other_is f in
      let here = told (file_at law files l left tl p one (AreEntries.one_is e) (AreRead.one f) has_one (AreRead.one_file f))
      (subst (IsFileOf (get files (grafted r.top p))) (sym (AreRead.same f))
      (file_at law files r right tr p other (AreEntries.other_is e) (AreRead.other f) has_other (AreRead.other_file f))) in
      subst (λ x. Told (get files x) (get files other.path) o) (Stands.whole (stands law l left p one (AreEntries.one_is e)))
      (subst (λ x. Told (get files (grafted l.top p)) (get files x) o) (Stands.whole (stands law r right p other (AreEntries.other_is e))) here)

  -- ---- what was missed

  record IsMiss (p : List ℕ) (m : Missed) : Type 0 where
    row : row_path l r m ≡ p
    to_be_read : WasToBeRead l r m

  -- a side's own entry at a path, told by the path that is grafted on the side's top
  own_entry : (s : Side) → IsSide s → (p : List ℕ) (e : Entry) → entry_at s p ≡ Some e
      → (below_of (grafted s.top p) s.top ≡ p) × (option_map (λ (x : Entry). x.path) (entry_at s p) ≡ Some (grafted s.top p))
  own_entry s is p e here =
      let at = stands law s is p e here in
      (ap (λ q. below_of q s.top) (Stands.whole at) ∙ Stands.path at, ap (option_map (λ (x : Entry). x.path)) here ∙ ap Some (sym (Stands.whole at)))

  -- so a file that was read is missed by that path
  one_miss : (d : Draft) → Settled d → is_read (stat_at (entry_at l d.row.path)) (stat_at (entry_at r d.row.path)) ≡ true → (m : Missed)
      → row_path l r m ≡ d.row.path → option_map (λ (x : Entry). x.path) (entry_at (cond m.dest r l) d.row.path) ≡ Some m.path → IsMiss d.row.path m
  one_miss d s read m row own = record {
    row = row;
    to_be_read = record {
      shown = ap (is_shown l r) row ∙ Settled.shown s;
      read = (λ i. is_read (stat_at (entry_at l (row i))) (stat_at (entry_at r (row i)))) ∙ read;
      own = ap (λ q. option_map (λ (x : Entry). x.path) (entry_at (cond m.dest r l) q)) row ∙ own;
    };
  }

  miss : (d : Draft) → Settled d → (dest : Bool) (why : Missing) → d.outcome ≡ Some (outcome.Missed dest why)
      → IsMiss d.row.path (missed_at l.top r.top d.row.path dest)
  miss d s false why e =
      let read = was_read d s (outcome.Missed false why) e in
      let es = are_entries (entry_at l d.row.path) (entry_at r d.row.path) read in
      let own = own_entry l left d.row.path (AreEntries.one es) (AreEntries.one_is es) in
      one_miss d s read (missed_at l.top r.top d.row.path false) own.0 own.1
  miss d s true why e =
      let read = was_read d s (outcome.Missed true why) e in
      let es = are_entries (entry_at l d.row.path) (entry_at r d.row.path) read in
      let own = own_entry r right d.row.path (AreEntries.other es) (AreEntries.other_is es) in
      one_miss d s read (missed_at l.top r.top d.row.path true) own.0 own.1

  missed_is : (why : Missing) (d : Draft) → Settled d → (m : Missed) → missed_by why l.top r.top d ≡ Some m → IsMiss d.row.path m
  missed_is why d s m e =
      let f = of_map (missed_at l.top r.top d.row.path) (side_missed why d.outcome) m e in
      subst (IsMiss d.row.path) (sym f.2) (miss d s f.0 why (side_is why d.outcome f.0 f.1))

  abbrev Follows : (Draft → Option Missed) → List Draft → Type 0
  Follows f ds = AllByRecursion (λ d. (m : Missed) → f d ≡ Some m → row_path l r m ≡ d.row.path) ds

  module _ (f : Draft → Option Missed) where
    behind_missed : (p : List ℕ) (ds : List Draft) → AllByRecursion (λ y. path_cmp p y ≡ Less) (paths ds) → Follows f ds
        → AllByRecursion (λ y. path_cmp p y ≡ Less) (map (row_path l r) (filter_map f ds))
    behind_missed p [] b g = tt
    behind_missed p (d ∷ ds) b g =
        elim (f d) as (λ o. f d ≡ o → AllByRecursion (λ y. path_cmp p y ≡ Less) (map (row_path l r) (cons_option o (filter_map f ds)))) [
          | None ↦ λ e. behind_missed p ds b.1 g.1
          | Some m ↦ λ e. (subst (λ q. path_cmp p q ≡ Less) (sym (g.0 m e)) b.0, behind_missed p ds b.1 g.1)
        ] refl

    ascend_missed : (ds : List Draft) → IsStrictlySortedBy path_cmp (paths ds) → Follows f ds
        → IsStrictlySortedBy path_cmp (map (row_path l r) (filter_map f ds))
    unfolding IsStrictlySortedBy
    ascend_missed [] b g = tt
    ascend_missed (d ∷ ds) b g =
        elim (f d) as (λ o. f d ≡ o → IsStrictlySortedBy path_cmp (map (row_path l r) (cons_option o (filter_map f ds)))) [
          | None ↦ λ e. ascend_missed ds b.1 g.1
          | Some m ↦ λ e. (
            subst (λ q. AllByRecursion (λ y. path_cmp q y ≡ Less) (map (row_path l r) (filter_map f ds))) (sym (g.0 m e))
                (behind_missed d.row.path ds b.0 g.1),
            ascend_missed ds b.1 g.1,
          )
        ] refl

    -- a file of another row is not of this one
    other_row : (p q x : List ℕ) → path_cmp p q ≡ Less → x ≡ q → pointwise eqb x p ≡ false
    other_row p q x less e = false_from_ne_true (pointwise eqb x p)
        (λ t. irreflexive p (subst (λ z. path_cmp p z ≡ Less) (sym e ∙ (bytes_decides x p).0 t) less))

    earlier_row : (p q x : List ℕ) → path_cmp p q ≡ Less → x ≡ p → pointwise eqb x q ≡ false
    earlier_row p q x less e = false_from_ne_true (pointwise eqb x q)
        (λ t. irreflexive q (subst (λ z. path_cmp z q ≡ Less) (sym e ∙ (bytes_decides x q).0 t) less))

    none_missed : (p : List ℕ) (ds : List Draft) → AllByRecursion (λ y. path_cmp p y ≡ Less) (paths ds) → Follows f ds
        → is_missed l r (filter_map f ds) p ≡ false
    none_missed p [] b g = refl
    none_missed p (d ∷ ds) b g =
        elim (f d) as (λ o. f d ≡ o → is_missed l r (cons_option o (filter_map f ds)) p ≡ false) [
          | None ↦ λ e. none_missed p ds b.1 g.1
          | Some m ↦ λ e.
              ap (λ t. t || is_missed l r (filter_map f ds) p) (other_row p d.row.path (row_path l r m) b.0 (g.0 m e)) ∙ none_missed p ds b.1 g.1
        ] refl

    later_missed : (d : Draft) (all ds : List Draft) → ((m : Missed) → f d ≡ Some m → row_path l r m ≡ d.row.path)
        → AllByRecursion (λ y. path_cmp d.row.path y ≡ Less) (paths ds) →
        AllByRecursion (λ e. is_missed l r (filter_map f all) e.row.path ≡ is_some (f e)) ds
        → AllByRecursion (λ e. is_missed l r (filter_map f (d ∷ all)) e.row.path ≡ is_some (f e)) ds
    later_missed d all [] g b h = tt
    later_missed d all (x ∷ ds) g b h = (
      elim (f d) as (λ o. f d ≡ o → is_missed l r (cons_option o (filter_map f all)) x.row.path ≡ is_some (f x)) [
        | None ↦ λ e. h.0
        | Some m ↦ λ e. ap (λ t. t || is_missed l r (filter_map f all) x.row.path) (earlier_row d.row.path x.row.path (row_path l r m) b.0 (g m e)) ∙ h.0
      ] refl,
      later_missed d all ds g b.1 h.1,
    )

    missed_here : (ds : List Draft) → IsStrictlySortedBy path_cmp (paths ds) → Follows f ds
        → AllByRecursion (λ d. is_missed l r (filter_map f ds) d.row.path ≡ is_some (f d)) ds
    unfolding IsStrictlySortedBy
    missed_here [] b g = tt
    missed_here (d ∷ ds) b g = (
      elim (f d) as (λ o. f d ≡ o → is_missed l r (cons_option o (filter_map f ds)) d.row.path ≡ is_some o) [
        | None ↦ λ e. none_missed d.row.path ds b.0 g.1
        | Some m ↦ λ e. ap (λ t. t || is_missed l r (filter_map f ds) d.row.path) ((bytes_decides (row_path l r m) d.row.path).1 (g.0 m e))
      ] refl,
      later_missed d ds ds g.0 b.0 (missed_here ds b.1 g.1),
    )

  -- ---- the findings

  follows : (why : Missing) (ds : List Draft) → AllByRecursion Settled ds → Follows (missed_by why l.top r.top) ds
  follows why [] h = tt
  follows why (d ∷ ds) h = (λ m e. IsMiss.row (missed_is why d h.0 m e), follows why ds h.1)

  were_read : (why : Missing) (ds : List Draft) → AllByRecursion Settled ds → AllByRecursion (WasToBeRead l r) (filter_map (missed_by why l.top r.top) ds)
  were_read why [] h = tt
  were_read why (d ∷ ds) h =
      elim (missed_by why l.top r.top d) as
      (λ o. missed_by why l.top r.top d ≡ o
      → AllByRecursion (WasToBeRead l r) (cons_option o (filter_map (missed_by why l.top r.top) ds))) [
        | None ↦ λ e. were_read why ds h.1
        | Some m ↦ λ e. (IsMiss.to_be_read (missed_is why d h.0 m e), were_read why ds h.1)
      ] refl

  apart_from : (missed : List Missed) (ds : List Draft) → AllByRecursion Settled ds
      → AllByRecursion (λ d. is_missed l r missed d.row.path ≡ is_some (missed_by missing.Changed l.top r.top d)) ds →
      AllByRecursion (λ m. is_missed l r missed (row_path l r m) ≡ false) (filter_map (missed_by missing.Failed l.top r.top) ds)
  apart_from missed [] h g = tt
  apart_from missed (d ∷ ds) h g =
      elim (missed_by missing.Failed l.top r.top d) as
      (λ o. missed_by missing.Failed l.top r.top d ≡ o
      → AllByRecursion (λ m. is_missed l r missed (row_path l r m) ≡ false)
      (cons_option o (filter_map (missed_by missing.Failed l.top r.top) ds))) [
        | None ↦ λ e. apart_from missed ds h.1 g.1
        | Some m ↦ λ e. (
          ap (is_missed l r missed) (IsMiss.row (missed_is missing.Failed d h.0 m e)) ∙ g.0
              ∙ not_both_missed (missed_at l.top r.top d.row.path) d.outcome m e,
          apart_from missed ds h.1 g.1,
        )
      ] refl

  same_told : (d : Draft) → Settled d → (x : Bool) → d.outcome ≡ Some (outcome.Same x) → (t : Option Files) → t ≡ tree
      → IfSome t (λ files. x ≡ same_bytes files (entry_at l d.row.path) (entry_at r d.row.path))
  same_told d s x is None e = tt
  same_told d s x is (Some files) e =
      let es = are_entries (entry_at l d.row.path) (entry_at r d.row.path) (was_read d s (outcome.Same x) is) in
      let told = told_of files (subst (λ u. IfSome u (λ files. StatsTold files l.entries)) (sym e) told_left)
      (subst (λ u. IfSome u (λ files. StatsTold files r.entries)) (sym e) told_right) d s (outcome.Same x) is
      (subst (λ u. IsSettled gives u l.top r.top d) (sym e) (Settled.outcome s)) es in
      told ∙ (λ i. same_bytes files (sym (AreEntries.one_is es) i) (sym (AreEntries.other_is es) i))

  unchanged : (t : Option Files) → t ≡ tree → (ds : List Draft) → AllByRecursion Settled ds
      → IfSome t (λ files. filter_map (missed_by missing.Changed l.top r.top) ds ≡ [])
  unchanged None e ds h = tt
  unchanged (Some files) e [] h = refl
  unchanged (Some files) e (d ∷ ds) h =
      elim (missed_by missing.Changed l.top r.top d) as
      (λ o. missed_by missing.Changed l.top r.top d ≡ o → cons_option o (filter_map (missed_by missing.Changed l.top r.top) ds) ≡ []) [
        | None ↦ λ g. unchanged (Some files) e ds h.1
        | Some m ↦ λ g.
            let f = of_map (missed_at l.top r.top d.row.path) (side_missed missing.Changed d.outcome) m g in
            let is = side_is missing.Changed d.outcome f.0 f.1 in
            let es = are_entries (entry_at l d.row.path) (entry_at r d.row.path) (was_read d h.0 (outcome.Missed f.0 missing.Changed) is) in
            absurd (told_of files (subst (λ u. IfSome u (λ files. StatsTold files l.entries)) (sym e) told_left)
            (subst (λ u. IfSome u (λ files. StatsTold files r.entries)) (sym e) told_right) d h.0
            (outcome.Missed f.0 missing.Changed) is
            (subst (λ u. IsSettled gives u l.top r.top d) (sym e) (Settled.outcome h.0)) es)
      ] refl

  the_rows : (missed : List Missed) (ds : List Draft) → AllByRecursion Settled ds
      → AllByRecursion (λ d. is_missed l r missed d.row.path ≡ gave_nothing d.outcome) ds →
      AllByRecursion (λ row. IsRow tree (is_missed l r missed row.path) (entry_at l row.path) (entry_at r row.path) row) (map row_by ds)
  the_rows missed [] h g = tt
  the_rows missed (d ∷ ds) h g = (
    record {
      exist = Settled.exist h.0;
      kind = Settled.kind h.0;
      size = Settled.size h.0;
      content = content_row tree (entry_at l d.row.path) (entry_at r d.row.path) d.outcome d.row.content (is_missed l r missed d.row.path)
          (Settled.content h.0) (sym (ap is_some (Settled.bytes h.0)) ∙ (Settled.outcome h.0).all) g.0
          (λ x is. same_told d h.0 x is tree refl);
    },
    the_rows missed ds h.1 g.1,
  )

  nothing_here : (F C : List Missed) (ds : List Draft)
      → AllByRecursion (λ d. is_missed l r F d.row.path ≡ is_some (missed_by missing.Failed l.top r.top d)) ds
      → AllByRecursion (λ d. is_missed l r C d.row.path ≡ is_some (missed_by missing.Changed l.top r.top d)) ds →
      AllByRecursion (λ d. is_missed l r (F ++ C) d.row.path ≡ gave_nothing d.outcome) ds
  nothing_here F C [] h g = tt
  nothing_here F C (d ∷ ds) h g = (
    list_any-append (λ m. pointwise eqb (row_path l r m) d.row.path) F C ∙ (λ i. h.0 i || g.0 i)
        ∙ one_or_other (missed_at l.top r.top d.row.path) d.outcome,
    nothing_here F C ds h.1 g.1,
  )

  all_settled : (ds : List Draft)
      → AllByRecursion (λ d. unsettled d ≡ draft_of (links_at l r d.row.path) d.row.path (at d.row.path L) (at d.row.path R)) ds
      → AllByRecursion (λ d. is_shown l r d.row.path ≡ true) ds → AllByRecursion (IsSettled gives tree l.top r.top) ds → AllByRecursion Settled ds
  all_settled [] h g o = tt
  all_settled (d ∷ ds) h g o = (settled_row d h.0 g.0 o.0, all_settled ds h.1 g.1 o.1)

  are_shown : (ds : List Draft) → ((p : List ℕ) → is_row p ds ≡ is_shown l r p) → (part : List Draft)
      → AllByRecursion (λ d. is_row d.row.path ds ≡ true) part → AllByRecursion (λ d. is_shown l r d.row.path ≡ true) part
  are_shown ds e [] h = tt
  are_shown ds e (d ∷ part) h = (sym (e d.row.path) ∙ h.0, are_shown ds e part h.1)

  pub comparison : (drafts : List Draft) → AreDrafts (links_at l r) L R (map unsettled drafts) → All (IsSettled gives tree l.top r.top) drafts
      → IsComparison tree l r (findings_of l.top r.top drafts)
  comparison drafts are settled =
      let each = all_unmapped_drafts (λ d. d ≡ draft_of (links_at l r d.row.path) d.row.path (at d.row.path L) (at d.row.path R)) drafts
      (recursion_from_All (λ (d : Draft). d ≡ draft_of (links_at l r d.row.path) d.row.path (at d.row.path L) (at d.row.path R))
      (map unsettled drafts) are.each) in
      let has : (p : List ℕ) → is_row p drafts ≡ is_shown l r p = λ p. sym (is_row-unsettled p drafts) ∙ are.shown p
      ∙ shown-items l.top r.top p l.entries r.entries in
      let all = all_settled drafts each (are_shown drafts has drafts (rows_there drafts))
      (recursion_from_All (IsSettled gives tree l.top r.top) drafts settled) in
      let sorted : IsStrictlySortedBy path_cmp (paths drafts) = subst (IsStrictlySortedBy path_cmp) (paths-unsettled drafts) are.ascend in
      let failed = follows missing.Failed drafts all in
      let changed = follows missing.Changed drafts all in
      let F = filter_map (missed_by missing.Failed l.top r.top) drafts in
      let C = filter_map (missed_by missing.Changed l.top r.top) drafts in
      let f = missed_here (missed_by missing.Failed l.top r.top) drafts sorted failed in
      let c = missed_here (missed_by missing.Changed l.top r.top) drafts sorted changed in
      record {
        ascend = subst (IsStrictlySortedBy path_cmp) (sym (paths-rows drafts)) sorted;
        shown = λ p. is_row-rows p drafts ∙ has p;
        each = All-from_recursion
            (λ (row : Row). IsRow tree (is_missed l r (F ++ C) row.path) (entry_at l row.path) (entry_at r row.path) row)
            (map row_by drafts) (the_rows (F ++ C) drafts all (nothing_here F C drafts f c));
        failed_ascend = ascend_missed (missed_by missing.Failed l.top r.top) drafts sorted failed;
        changed_ascend = ascend_missed (missed_by missing.Changed l.top r.top) drafts sorted changed;
        apart = All-from_recursion (λ (m : Missed). is_missed l r C (row_path l r m) ≡ false) F (apart_from C drafts all c);
        to_be_read = All-append (WasToBeRead l r) F C (All-from_recursion (WasToBeRead l r) F (were_read missing.Failed drafts all))
            (All-from_recursion (WasToBeRead l r) C (were_read missing.Changed drafts all));
        unchanged = unchanged tree refl drafts all;
      }

-- rows of which no file was read yet
pub fresh : (links : List ℕ → Rattle.tree_cmp.specs.declared.rows.Two.Two) (l r : List Item) (drafts : List Draft)
    → AreDrafts links l r drafts → map unsettled drafts ≡ drafts
fresh links l r drafts are =
    each drafts (recursion_from_All (λ (d : Draft). d ≡ draft_of (links d.row.path) d.row.path (at d.row.path l) (at d.row.path r)) drafts are.each)
  where
    each : (ds : List Draft) → AllByRecursion (λ d. d ≡ draft_of (links d.row.path) d.row.path (at d.row.path l) (at d.row.path r)) ds
        → map unsettled ds ≡ ds
    each [] h = refl
    each (d ∷ ds) h = λ i. (ap unsettled h.0 ∙ sym h.0) i ∷ each ds h.1 i
