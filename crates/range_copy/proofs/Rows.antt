-- The rows of small entries and of large files, brought together.
use Rattle.range_copy.proofs.Prelude.{◌≡◌, ℕ, ◌+◌, Bool, true, false, not, cond, ◌||◌, ◌&&◌, List, [], ◌∷◌, map, refl, ap, ◌∙◌, sym, subst, arith, nat_eq}
use Rattle.range_copy.proofs.Prelude.{is_some, or_parts, All-from_recursion, sum_by-cons, All, AllByRecursion, count_by, sum_by, zip, pointwise, paths, Entry}
use Rattle.range_copy.proofs.Prelude.{Fate, is_done, target_of, treated, Pair, AreRows, failed_at, is_target_of, is_large, large_of, marks_of, merged, small_of}
use Rattle.range_copy.proofs.Parted.{has_stat, turned_off}

abbrev pub Row : Type 0
Row = List ℕ × Fate

abbrev pub Told : Type 0
Told = Entry × Row

-- entries with their rows, told side by side

pub row_paths : (P : Entry → Fate → Type 0) (es : List Entry) (rows : List Row) → AreRows P es rows → map (λ row. row.0) rows ≡ paths es
row_paths P [] [] h = refl
row_paths P [] (row ∷ rows) h = absurd h
row_paths P (e ∷ es) [] h = absurd h
row_paths P (e ∷ es) (row ∷ rows) h = λ i. h.0.0 i ∷ row_paths P es rows h.1 i

pub rows_told : (P : Entry → Fate → Type 0) (es : List Entry) (rows : List Row) → AreRows P es rows → All (λ (one : Told). P one.0 one.1.1) (zip es rows)
rows_told P es rows h = All-from_recursion (λ (one : Told). P one.0 one.1.1) (zip es rows) (by es rows h)
  where
    by : (es : List Entry) (rows : List Row) → AreRows P es rows → AllByRecursion (λ (one : Told). P one.0 one.1.1) (zip es rows)
    by [] [] h = tt
    by [] (row ∷ rows) h = absurd h
    by (e ∷ es) [] h = absurd h
    by (e ∷ es) (row ∷ rows) h = (h.0.1, by es rows h.1)

pub told_rows : (P : Entry → Fate → Type 0) (es : List Entry) (rows : List Row) → map (λ row. row.0) rows ≡ paths es →
    AllByRecursion (λ (one : Told). P one.0 one.1.1) (zip es rows) → AreRows P es rows
told_rows P [] [] same h = tt
told_rows P [] (row ∷ rows) same h = cc
told_rows P (e ∷ es) [] same h = cc
told_rows P (e ∷ es) (row ∷ rows) same h =
    let first : row.0 ≡ e.path = cc in
    let rest : map (λ (row : Row). row.0) rows ≡ paths es = cc in
    ((first, h.0), told_rows P es rows rest h.1)

-- rows by which more is known, of entries of which something is known
pub rows_with : (Q : Entry → Type 0) (P R : Entry → Fate → Type 0) (es : List Entry) (rows : List Row) → ((e : Entry) (f : Fate) → Q e → P e f → R e f) →
    AllByRecursion Q es → AreRows P es rows → AreRows R es rows
rows_with Q P R [] [] h q p = tt
rows_with Q P R [] (row ∷ rows) h q p = absurd p
rows_with Q P R (e ∷ es) [] h q p = absurd p
rows_with Q P R (e ∷ es) (row ∷ rows) h q p = ((p.0.0, h e row.1 q.0 p.0.1), rows_with Q P R es rows h q.1 p.1)

-- the parts of a list with one entry more

-- by whether the first entry has a stat, and whether it is large
data Case (piece : ℕ) (e : Entry) (rest : List Entry) : Type 0 where
  is_wide : is_some e.stat ≡ true → is_large piece e rest ≡ true → Case piece e rest
  is_slim : is_some e.stat ≡ true → is_large piece e rest ≡ false → Case piece e rest
  is_bare : is_some e.stat ≡ false → is_large piece e rest ≡ false → Case piece e rest

case_of : (piece : ℕ) (e : Entry) (rest : List Entry) → Case piece e rest
case_of piece e rest = by (is_large piece e rest) refl (is_some e.stat) refl
  where
    by : (b : Bool) → is_large piece e rest ≡ b → (s : Bool) → is_some e.stat ≡ s → Case piece e rest
    by true l s is = is_wide (has_stat piece e rest l) l
    by false l true is = is_slim is l
    by false l false is = is_bare is l

-- the parts, the marks and the treated entries of a list with one entry more
pub data More (piece : ℕ) (e : Entry) (rest : List Entry) : Type 0 where
  one_wide : treated (e ∷ rest) ≡ e ∷ treated rest → treated (small_of piece (e ∷ rest)) ≡ treated (small_of piece rest) →
      large_of piece (e ∷ rest) ≡ e ∷ large_of piece rest → marks_of piece (e ∷ rest) ≡ true ∷ marks_of piece rest → More piece e rest
  one_slim : treated (e ∷ rest) ≡ e ∷ treated rest → treated (small_of piece (e ∷ rest)) ≡ e ∷ treated (small_of piece rest) →
      large_of piece (e ∷ rest) ≡ large_of piece rest → marks_of piece (e ∷ rest) ≡ false ∷ marks_of piece rest → More piece e rest
  no_one : treated (e ∷ rest) ≡ treated rest → treated (small_of piece (e ∷ rest)) ≡ treated (small_of piece rest) →
      large_of piece (e ∷ rest) ≡ large_of piece rest → marks_of piece (e ∷ rest) ≡ marks_of piece rest → More piece e rest

pub more_of : (piece : ℕ) (e : Entry) (rest : List Entry) → More piece e rest
more_of piece e rest = by (case_of piece e rest)
  where
    kept : (b : Bool) → is_large piece e rest ≡ b → small_of piece (e ∷ rest) ≡ cond b (small_of piece rest) (e ∷ small_of piece rest)
    kept b l = ap (λ b. cond b (small_of piece rest) (e ∷ small_of piece rest)) l

    by : Case piece e rest → More piece e rest
    by (is_wide s l) = one_wide (ap (λ b. cond b (e ∷ treated rest) (treated rest)) s) (ap treated (kept true l))
        (ap (λ b. cond b (e ∷ large_of piece rest) (large_of piece rest)) l)
        (ap (λ b. cond b (is_large piece e rest ∷ marks_of piece rest) (marks_of piece rest)) s ∙ ap (λ b. b ∷ marks_of piece rest) l)
    by (is_slim s l) = one_slim (ap (λ b. cond b (e ∷ treated rest) (treated rest)) s)
        (ap treated (kept false l) ∙ ap (λ b. cond b (e ∷ treated (small_of piece rest)) (treated (small_of piece rest))) s)
        (ap (λ b. cond b (e ∷ large_of piece rest) (large_of piece rest)) l)
        (ap (λ b. cond b (is_large piece e rest ∷ marks_of piece rest) (marks_of piece rest)) s ∙ ap (λ b. b ∷ marks_of piece rest) l)
    by (is_bare s l) = no_one (ap (λ b. cond b (e ∷ treated rest) (treated rest)) s)
        (ap treated (kept false l) ∙ ap (λ b. cond b (e ∷ treated (small_of piece rest)) (treated (small_of piece rest))) s)
        (ap (λ b. cond b (e ∷ large_of piece rest) (large_of piece rest)) l)
        (ap (λ b. cond b (is_large piece e rest ∷ marks_of piece rest) (marks_of piece rest)) s)

-- a relation between the parts of a list that is kept by one entry more is one between the parts of any list

abbrev pub Between : Type 1
Between = (all small large : List Entry) → List Bool → Type 0

pub by_parts : (R : Between) (piece : ℕ) → R [] [] [] [] →
    ((e : Entry) (all small large : List Entry) (marks : List Bool) → R all small large marks → R (e ∷ all) small (e ∷ large) (true ∷ marks)) →
    ((e : Entry) (all small large : List Entry) (marks : List Bool) → R all small large marks → R (e ∷ all) (e ∷ small) large (false ∷ marks)) →
    (es : List Entry) → R (treated es) (treated (small_of piece es)) (large_of piece es) (marks_of piece es)
by_parts R piece z w s [] = z
by_parts R piece z w s (e ∷ rest) = by (more_of piece e rest) (by_parts R piece z w s rest)
  where
    turn : (all small large : List Entry) (marks : List Bool) → treated (e ∷ rest) ≡ all → treated (small_of piece (e ∷ rest)) ≡ small →
        large_of piece (e ∷ rest) ≡ large → marks_of piece (e ∷ rest) ≡ marks → R all small large marks →
        R (treated (e ∷ rest)) (treated (small_of piece (e ∷ rest))) (large_of piece (e ∷ rest)) (marks_of piece (e ∷ rest))
    turn all small large marks a b c d r =
        subst (λ all. R all (treated (small_of piece (e ∷ rest))) (large_of piece (e ∷ rest)) (marks_of piece (e ∷ rest))) (sym a)
        (subst (λ small. R all small (large_of piece (e ∷ rest)) (marks_of piece (e ∷ rest))) (sym b)
        (subst (λ large. R all small large (marks_of piece (e ∷ rest))) (sym c) (subst (λ marks. R all small large marks) (sym d) r)))

    by : More piece e rest → R (treated rest) (treated (small_of piece rest)) (large_of piece rest) (marks_of piece rest) →
        R (treated (e ∷ rest)) (treated (small_of piece (e ∷ rest))) (large_of piece (e ∷ rest)) (marks_of piece (e ∷ rest))
    by (one_wide a b c d) r = turn _ _ _ _ a b c d (w e _ _ _ _ r)
    by (one_slim a b c d) r = turn _ _ _ _ a b c d (s e _ _ _ _ r)
    by (no_one a b c d) r = turn _ _ _ _ a b c d r

-- what is so of the small ones and of the large ones is so of all

abbrev Merging : (Entry → Fate → Type 0) → Between
Merging P all small large marks = (srows lrows : List Row) → AreRows P small srows → AreRows P large lrows → AreRows P all (merged marks srows lrows)

pub merged_rows : (P : Entry → Fate → Type 0) (piece : ℕ) (es : List Entry) (srows lrows : List Row) → AreRows P (treated (small_of piece es)) srows →
    AreRows P (large_of piece es) lrows → AreRows P (treated es) (merged (marks_of piece es) srows lrows)
merged_rows P piece = by_parts (Merging P) piece (λ srows lrows s l. tt) wide slim
  where
    wide : (e : Entry) (all small large : List Entry) (marks : List Bool) → Merging P all small large marks →
        Merging P (e ∷ all) small (e ∷ large) (true ∷ marks)
    wide e all small large marks h srows [] s l = absurd l
    wide e all small large marks h srows (row ∷ lrows) s l = (l.0, h srows lrows s l.1)

    slim : (e : Entry) (all small large : List Entry) (marks : List Bool) → Merging P all small large marks →
        Merging P (e ∷ all) (e ∷ small) large (false ∷ marks)
    slim e all small large marks h [] lrows s l = absurd s
    slim e all small large marks h (row ∷ srows) lrows s l = (s.0, h srows lrows s.1 l)

-- a measure of the rows beside their entries, which adds up row by row: that of all is that of the small ones and of the large ones
abbrev Adding : (List Entry → List Row → ℕ) → (Entry → Fate → Type 0) → Between
Adding m P all small large marks = (srows lrows : List Row) → AreRows P small srows → AreRows P large lrows →
    m all (merged marks srows lrows) ≡ m small srows + m large lrows

merged_by : (m : List Entry → List Row → ℕ) (w : Entry → Row → ℕ) → m [] [] ≡ 0 →
    ((e : Entry) (row : Row) (es : List Entry) (rows : List Row) → m (e ∷ es) (row ∷ rows) ≡ w e row + m es rows) →
    (P : Entry → Fate → Type 0) (piece : ℕ) (es : List Entry) (srows lrows : List Row) →
    AreRows P (treated (small_of piece es)) srows → AreRows P (large_of piece es) lrows →
    m (treated es) (merged (marks_of piece es) srows lrows) ≡ m (treated (small_of piece es)) srows + m (large_of piece es) lrows
merged_by m w zero_is more P piece = by_parts (Adding m P) piece none wide slim
  where
    none : Adding m P [] [] [] []
    none [] [] s l = omega (arith, zero_is)
    none [] (row ∷ lrows) s l = absurd l
    none (row ∷ srows) lrows s l = absurd s

    wide : (e : Entry) (all small large : List Entry) (marks : List Bool) → Adding m P all small large marks →
        Adding m P (e ∷ all) small (e ∷ large) (true ∷ marks)
    wide e all small large marks h srows [] s l = absurd l
    wide e all small large marks h srows (row ∷ lrows) s l =
        let r = h srows lrows s l.1 in
        omega (arith, r, more e row all (merged marks srows lrows), more e row large lrows)

    slim : (e : Entry) (all small large : List Entry) (marks : List Bool) → Adding m P all small large marks →
        Adding m P (e ∷ all) (e ∷ small) large (false ∷ marks)
    slim e all small large marks h [] lrows s l = absurd s
    slim e all small large marks h (row ∷ srows) lrows s l =
        let r = h srows lrows s.1 l in
        omega (arith, r, more e row all (merged marks srows lrows), more e row small srows)

pub merged_count : (p : Fate → Bool) (P : Entry → Fate → Type 0) (piece : ℕ) (es : List Entry) (srows lrows : List Row) →
    AreRows P (treated (small_of piece es)) srows → AreRows P (large_of piece es) lrows →
    count_by (λ row. p row.1) (merged (marks_of piece es) srows lrows) ≡ count_by (λ row. p row.1) srows + count_by (λ row. p row.1) lrows
merged_count p = merged_by (λ es rows. count_by (λ (row : Row). p row.1) rows) (λ e row. cond (p row.1) 1 0) refl
    (λ e row es rows. sum_by-cons (λ (row : Row). cond (p row.1) 1 0) row rows)

pub merged_sum : (w : Told → ℕ) (P : Entry → Fate → Type 0) (piece : ℕ) (es : List Entry) (srows lrows : List Row) →
    AreRows P (treated (small_of piece es)) srows → AreRows P (large_of piece es) lrows →
    sum_by w (zip (treated es) (merged (marks_of piece es) srows lrows))
    ≡ sum_by w (zip (treated (small_of piece es)) srows) + sum_by w (zip (large_of piece es) lrows)
merged_sum w = merged_by (λ es rows. sum_by w (zip es rows)) (λ e row. w (e, row)) refl (λ e row es rows. sum_by-cons w (e, row) (zip es rows))

-- a target whose entry failed is so among all rows where it is so among the small ones, if it is no large file's

abbrev Failing : List Pair → List ℕ → (Entry → Fate → Type 0) → Between
Failing pairs q P all small large marks = (srows lrows : List Row) → AreRows P small srows → AreRows P large lrows →
    is_target_of pairs large q ≡ false → failed_at pairs (merged marks srows lrows) q ≡ failed_at pairs srows q

pub merged_failed : (pairs : List Pair) (q : List ℕ) (P : Entry → Fate → Type 0) (piece : ℕ) (es : List Entry) (srows lrows : List Row) →
    AreRows P (treated (small_of piece es)) srows → AreRows P (large_of piece es) lrows →
    is_target_of pairs (large_of piece es) q ≡ false → failed_at pairs (merged (marks_of piece es) srows lrows) q ≡ failed_at pairs srows q
merged_failed pairs q P piece = by_parts (Failing pairs q P) piece none wide slim
  where
    none : Failing pairs q P [] [] [] []
    none [] lrows s l off = refl
    none (row ∷ srows) lrows s l off = absurd s

    wide : (e : Entry) (all small large : List Entry) (marks : List Bool) → Failing pairs q P all small large marks →
        Failing pairs q P (e ∷ all) small (e ∷ large) (true ∷ marks)
    wide e all small large marks h srows [] s l off = absurd l
    wide e all small large marks h srows (row ∷ lrows) s l off =
        let parts = or_parts (pointwise nat_eq q (target_of pairs e.path)) (is_target_of pairs large q) off in
        let other : pointwise nat_eq (target_of pairs row.0) q ≡ false =
        ap (λ p. pointwise nat_eq (target_of pairs p) q) l.0.0 ∙ turned_off q (target_of pairs e.path) parts.0
        in
        ap (λ b. (b && not (is_done row.1)) || failed_at pairs (merged marks srows lrows) q) other ∙ h srows lrows s l.1 parts.1

    slim : (e : Entry) (all small large : List Entry) (marks : List Bool) → Failing pairs q P all small large marks →
        Failing pairs q P (e ∷ all) (e ∷ small) large (false ∷ marks)
    slim e all small large marks h [] lrows s l off = absurd s
    slim e all small large marks h (row ∷ srows) lrows s l off =
        ap (λ b. (pointwise nat_eq (target_of pairs row.0) q && not (is_done row.1)) || b) (h srows lrows s.1 l off)
