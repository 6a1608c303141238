-- A path that is not named is not hidden, and each fate that is not named is `Done`.
use Rattle.tree_sync.proofs.Prelude.{◌≡◌, ℕ, Bool, true, false, not, cond, ◌||◌, ◌&&◌, List, [], ◌∷◌, ◌++◌, map, filter, Some, refl, ap, ◌∙◌, sym, subst, arith}
use Rattle.tree_sync.proofs.Prelude.{nat_eq, is_some, zero, suc, ◌<◌, length, get_or, ◌==◌, AllByRecursion, Contains, list_any, zip, pointwise, false≢true}
use Rattle.tree_sync.proofs.Prelude.{and_parts, and_from, or_from, or_parts, false_from_ne_true, Contains-append_left, Contains-append_right, list_any-append}
use Rattle.tree_sync.proofs.Prelude.{below_of, is_under, is_within, under_within, Entry, Mark, is_fine, paths, Fate, Row, Side, side, is_closed, is_gone}
use Rattle.tree_sync.proofs.Prelude.{is_hidden, is_partial, Pair, is_done, done_is, below_top, is_noted, is_under_some, named, noted, undone, Results, row_at}
use Rattle.entry_pages.specs.declared.entries.Mark.TheVariants as mark
use Rattle.level_work.specs.declared.items.Fate.TheVariants as fate
use Rattle.tree_sync.proofs.Members.{in_kept, in_map, one_off}

-- ---- hidden paths

closed_off : (m : Mark) → is_closed m ≡ true → is_fine m ≡ false
closed_off mark.Fine e = absurd (false≢true e)
closed_off _ e = refl

-- of a partial entry that is not gone not all was told
partial_noted : (e : Entry) → not (is_gone e.mark) ≡ true → is_partial e ≡ true → is_noted e ≡ true
partial_noted e there part =
    and_from (not (is_gone e.mark)) (not (is_some e.stat && is_fine e.mark) || not (e.unnamed == 0 && e.far == 0)) there
    (by (is_closed e.mark) (is_fine e.mark) (is_some e.stat) (e.unnamed == 0) (e.far == 0) (closed_off e.mark) part)
  where
    by : (c f s u r : Bool) → (c ≡ true → f ≡ false) → (c || not r) ≡ true → (not (s && f) || not (u && r)) ≡ true
    by true true s u r off p = absurd (false≢true (sym (off refl)))
    by true false true u r off p = refl
    by true false false u r off p = refl
    by false true true true true off p = absurd (false≢true p)
    by false true true true false off p = refl
    by false true true false r off p = refl
    by false true false u r off p = refl
    by false false true u r off p = refl
    by false false false u r off p = refl

-- so nothing that is not named is hidden
pub not_hidden : (s : Side) (p : List ℕ) → is_under_some (noted s) p ≡ false → is_hidden s p ≡ false
not_hidden s p off = by s.entries off
  where
    hides : Entry → Bool
    hides e = not (is_gone e.mark) && (is_partial e && is_under p (below_of e.path s.top))

    -- an entry that hides the path is noted over it
    hides_none : (e : Entry) → (is_noted e ≡ true → is_within p (below_of e.path s.top) ≡ false) → hides e ≡ false
    hides_none e free = false_from_ne_true (hides e) (λ t.
        let first = and_parts (not (is_gone e.mark)) (is_partial e && is_under p (below_of e.path s.top)) t in
        let second = and_parts (is_partial e) (is_under p (below_of e.path s.top)) first.1 in
        false≢true (sym (free (partial_noted e first.0 second.0)) ∙ under_within p (below_of e.path s.top) second.1))

    by : (es : List Entry) → list_any (is_within p) (map (λ e. below_of e.path s.top) (filter is_noted es)) ≡ false → list_any hides es ≡ false
    by [] h = refl
    by (e ∷ es) h =
        elim (is_noted e) as (λ b. is_noted e ≡ b →
        list_any (is_within p) (map (λ e. below_of e.path s.top) (cond b (e ∷ filter is_noted es) (filter is_noted es))) ≡ false →
        (hides e || list_any hides es) ≡ false) [
          | true ↦ λ n h.
              let parts = or_parts (is_within p (below_of e.path s.top)) (list_any (is_within p) (map (λ e. below_of e.path s.top) (filter is_noted es))) h in
              or_from (hides e) (list_any hides es) (hides_none e (λ _. parts.0)) (by es parts.1)
          | false ↦ λ n h. or_from (hides e) (list_any hides es) (hides_none e (λ t. absurd (false≢true (sym n ∙ t)))) (by es h)
        ] refl h

-- ---- a row by its path

pub record RowAt (rows : List Row) (p : List ℕ) : Type 0 where
  pub row : Row
  pub at : row_at rows p ≡ Some row

pub row_there : (rows : List Row) (p : List ℕ) → list_any (λ row. pointwise nat_eq row.path p) rows ≡ true → RowAt rows p
row_there [] p e = absurd (false≢true e)
row_there (r ∷ rows) p e =
    elim (pointwise nat_eq r.path p) as
    (λ b. pointwise nat_eq r.path p ≡ b → (b || list_any (λ row. pointwise nat_eq row.path p) rows) ≡ true → RowAt (r ∷ rows) p) [
      | true ↦ λ s e. record { row = r; at = ap (λ b. cond b (Some r) (row_at rows p)) s }
      | false ↦ λ s e. let f = row_there rows p e in record { row = f.row; at = ap (λ b. cond b (Some r) (row_at rows p)) s ∙ f.at }
    ] refl e

-- ---- the fate of an entry

pub record FateOf (Q : Entry × (List ℕ × Fate) → Type 0) (rows : List (List ℕ × Fate)) (e : Entry) : Type 0 where
  pub fate : Fate
  pub holds : Q (e, (e.path, fate))
  pub is_in : Contains rows (e.path, fate)

pub fate_in : (Q : Entry × (List ℕ × Fate) → Type 0) (es : List Entry) (rows : List (List ℕ × Fate)) (e : Entry) →
    map (λ row. row.0) rows ≡ paths es → AllByRecursion Q (zip es rows) → Contains es e → FateOf Q rows e
fate_in Q es rows e same h c = at es rows c.0 c.1 c.2 same h
  where
    at : (es : List Entry) (rows : List (List ℕ × Fate)) (k : ℕ) → k < length es → get_or es k e ≡ e → map (λ row. row.0) rows ≡ paths es →
        AllByRecursion Q (zip es rows) → FateOf Q rows e
    at [] rows k l is same h = absurd (omega (arith, l))
    at (x ∷ es) [] k l is same h = absurd (cc)
    at (x ∷ es) (row ∷ rows) zero l is same h =
        let here : row.0 ≡ x.path = cc in
        let own : row ≡ (e.path, row.1) = λ i. ((here ∙ ap (λ (y : Entry). y.path) is) i, row.1) in
        record {
          fate = row.1;
          holds = subst (λ (y : Entry). Q (y, (y.path, row.1))) is (subst (λ q. Q (x, (q, row.1))) here h.0);
          is_in = (0, omega arith, own);
        }
    at (x ∷ es) (row ∷ rows) (suc k) l is same h =
        let later : map (λ row. row.0) rows ≡ paths es = cc in
        let f = at es rows k (omega (arith, l)) is later h.1 in
        record { fate = f.fate; holds = f.holds; is_in = (suc f.is_in.0, omega (arith, f.is_in.1), f.is_in.2) }

-- the path of a fate other than `Done` is named
undone_in : (rows : List (List ℕ × Fate)) (q : List ℕ) (f : Fate) → Contains rows (q, f) → is_done f ≡ false → Contains (undone rows) q
undone_in rows q f c off =
    in_map (λ (row : List ℕ × Fate). row.0) (filter (λ row. not (is_done row.1)) rows) (q, f)
    (in_kept (λ (row : List ℕ × Fate). not (is_done row.1)) rows (q, f) c (ap not off))

-- a path is not named, part by part
pub record NotNamed (pair : Pair) (source dest : List Entry) (done : Results) (p : List ℕ) : Type 0 where
  pub left : is_under_some (noted (side pair.source source)) p ≡ false
  pub right : is_under_some (noted (side pair.target dest)) p ≡ false
  pub copies : (q : List ℕ) (f : Fate) → Contains done.copies (q, f) → is_within p (below_top pair q) ≡ true → f ≡ fate.Done
  pub removals : (q : List ℕ) (f : Fate) → Contains done.removals (q, f) → is_within p (below_top pair q) ≡ true → f ≡ fate.Done

split : (f : List ℕ → Bool) (xs ys : List (List ℕ)) → list_any f (xs ++ ys) ≡ false → (list_any f xs ≡ false) × (list_any f ys ≡ false)
split f xs ys e = or_parts (list_any f xs) (list_any f ys) (sym (list_any-append f xs ys) ∙ e)

pub not_named : (pair : Pair) (source dest : List Entry) (done : Results) (p : List ℕ) → is_under_some (named pair source dest done) p ≡ false →
    NotNamed pair source dest done p
not_named pair source dest done p off =
    let l = noted (side pair.source source) in
    let r = noted (side pair.target dest) in
    let reads = done.failed ++ done.changed in
    let all = done.failed ++ done.changed ++ undone done.copies ++ undone done.removals in
    let parts = split (is_within p) (l ++ r) (map (below_top pair) all) off in
    let sides = split (is_within p) l r parts.0 in
    record {
      left = sides.0;
      right = sides.1;
      copies = λ q f c w. fated all parts.1 q f w (λ u.
          Contains-append_left (reads ++ undone done.copies) (undone done.removals) q (Contains-append_right reads (undone done.copies) q
          (undone_in done.copies q f c u)));
      removals = λ q f c w. fated all parts.1 q f w (λ u.
          Contains-append_right (reads ++ undone done.copies) (undone done.removals) q (undone_in done.removals q f c u));
    }
  where
    fated : (all : List (List ℕ)) → list_any (is_within p) (map (below_top pair) all) ≡ false → (q : List ℕ) (f : Fate) →
        is_within p (below_top pair q) ≡ true → (is_done f ≡ false → Contains all q) → f ≡ fate.Done
    fated all off q f w among =
        elim (is_done f) as (λ b. is_done f ≡ b → f ≡ fate.Done) [
          | true ↦ λ d. done_is f d
          | false ↦ λ d.
              absurd (false≢true (sym (one_off (is_within p) (map (below_top pair) all) (below_top pair q) off
              (in_map (below_top pair) all q (among d))) ∙ w))
        ] refl
