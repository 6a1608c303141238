-- The parts of a list, each copied, as they are seen once they were told: what the copies of both need, and what is so of all entries.
use Rattle.range_copy.proofs.Prelude.{◌≡◌, ℕ, ◌+◌, Bool, true, List, map, Option, IfSome, ap, ◌∙◌, sym, subst, cond, is_some, Result, Ok, Err, IfOk, All}
use Rattle.range_copy.proofs.Prelude.{AllByRecursion, count_by, list_any, is_within, RoseBy, UnderDirectories, Files, IsTree, bytes_by, paths, Entry, is_failed}
use Rattle.range_copy.proofs.Prelude.{is_done, Fate, AreEarly, CanCopy, Copied, FitsTree, IsCopied, IsEarly, SameButTargets, bytes_copied, treated, Pair}
use Rattle.range_copy.proofs.Prelude.{AreApart, AreFailed, AreRows, CanMake, SameButFor, bytes_over, exceeds, large_of, marks_of, merged, small_of, Tally}
use Rattle.range_copy.proofs.Folded.{rose_both}
use Rattle.range_copy.proofs.Rows.{Row, Told, merged_count, merged_rows, merged_sum, row_paths, rows_told}
use Rattle.range_copy.proofs.Widened.{Given, copied_told, large_apart, large_exceed, large_sourced, makes, rest_both, rest_small, rows_early}
use Rattle.range_copy.proofs.Widened.{small_can, small_early, small_fit, small_sourced}

module _ (list : List Entry) (pairs : List Pair) (given : Given list pairs) (piece : ℕ) (small : List Entry) (s : small ≡ small_of piece list) where
  -- what the copy of the small ones needs, and leaves

  pub can_first : CanCopy small pairs
  can_first = subst (λ es. CanCopy es pairs) (sym s) (small_can list pairs given piece)

  pub fit_first : (t : Option Files) → IfSome t (FitsTree list pairs) → IfSome t (FitsTree small pairs)
  fit_first t f = subst (λ es. IfSome t (FitsTree es pairs)) (sym s) (small_fit list pairs given piece t f)

  pub rows_in_source : (rows : List Row) → map (λ row. row.0) rows ≡ paths (treated small) →
      All (λ row. list_any (λ pair. is_within row.0 pair.source) pairs ≡ true) rows
  rows_in_source rows same = small_sourced list pairs given piece rows (same ∙ ap (λ es. paths (treated es)) s)

  pub rest_first : (t t1 : Option Files) → IfSome t (λ before. IfSome t1 (SameButTargets pairs small before)) →
      IfSome t (λ before. IfSome t1 (SameButTargets pairs list before))
  rest_first t t1 rest =
      rest_small list pairs given piece t t1 (subst (λ es. IfSome t (λ before. IfSome t1 (SameButTargets pairs es before))) s rest)

  -- what the copy of the large ones needs, and what both leave

  module _ (large : List Entry) (l : large ≡ large_of piece list) where
    pub exceed_second : AllByRecursion (λ e. exceeds piece e ≡ true) large
    exceed_second = subst (AllByRecursion (λ e. exceeds piece e ≡ true)) (sym l) (large_exceed list pairs given piece)

    pub source_second : AllByRecursion (λ e. list_any (λ pair. is_within e.path pair.source) pairs ≡ true) large
    source_second =
        subst (AllByRecursion (λ e. list_any (λ (pair : Pair). is_within e.path pair.source) pairs ≡ true)) (sym l)
        (large_sourced list pairs given piece)

    pub apart_second : AreApart pairs large
    apart_second = subst (AreApart pairs) (sym l) (large_apart list pairs given piece)

    pub makes_second : UnderDirectories → (t t1 : Option Files) → IfSome t IsTree → IfSome t (FitsTree list pairs) → (rows : List Row) →
        map (λ row. row.0) rows ≡ paths (treated small) → is_some t1 ≡ is_some t →
        IfSome t (λ before. IfSome t1 (Copied small pairs rows before)) → (failed : List (List ℕ)) → AreFailed pairs rows failed →
        IfSome t1 (λ files. AllByRecursion (λ e. CanMake pairs failed e files) large)
    makes_second law t t1 tree fits rows same tells told failed are =
        subst (λ es. IfSome t1 (λ files. AllByRecursion (λ e. CanMake pairs failed e files) es)) (sym l)
        (makes list pairs given piece law t t1 tree fits rows (same ∙ ap (λ es. paths (treated es)) s) tells
        (subst (λ es. IfSome t (λ before. IfSome t1 (Copied es pairs rows before))) s told) failed are)

    pub rest_second : (t t1 t2 : Option Files) → is_some t1 ≡ is_some t → IfSome t (λ before. IfSome t1 (SameButTargets pairs small before)) →
        IfSome t1 (λ before. IfSome t2 (SameButFor pairs large before)) → IfSome t (λ before. IfSome t2 (SameButTargets pairs list before))
    rest_second t t1 t2 tells first second =
        rest_both list pairs given piece t t1 t2 tells (subst (λ es. IfSome t (λ before. IfSome t1 (SameButTargets pairs es before))) s first)
        (subst (λ es. IfSome t1 (λ before. IfSome t2 (SameButFor pairs es before))) l second)

-- what a report says
pub record Reported (list : List Entry) (pairs : List Pair) (t t2 : Option Files) (n n2 : ℕ) (report : List Row × ℕ × ℕ) : Type 0 where
  pub paths : map (λ row. row.0) report.0 ≡ paths (treated list)
  pub early : AreEarly list pairs report.0
  pub told : IfSome t (λ before. IfSome t2 (Copied list pairs report.0 before))
  pub copied : report.1 ≡ count_by (λ row. is_done row.1) report.0
  pub bytes : report.2 ≡ bytes_copied list report.0
  pub blamed : RoseBy (count_by (λ row. is_failed row.1) report.0) n n2

-- what both parts told, by the files and the counts of faults before them, between them and after them
pub record Ran (pairs : List Pair) (small large : List Entry) (first : List Row × ℕ × ℕ) (second : Tally) (t t1 t2 : Option Files)
    (n n1 n2 : ℕ) : Type 0 where
  pub said : Reported small pairs t t1 n n1 first
  pub tells_s : is_some t1 ≡ is_some t
  pub early_l : AreRows (IsEarly pairs first.0) large second.rows.items
  pub told_l : IfSome t1 (λ before. IfSome t2 (λ after. AreRows (IsCopied before after pairs first.0) large second.rows.items))
  pub copied_l : second.copied ≡ count_by (λ row. is_done row.1) second.rows.items
  pub bytes_l : second.bytes ≡ bytes_over large second.rows.items
  pub blamed_l : RoseBy (count_by (λ row. is_failed row.1) second.rows.items) n1 n2
  pub rest_l : IfSome t1 (λ before. IfSome t2 (SameButFor pairs large before))

-- the report on both parts: the rows in the order of the list, and the sums of the numbers
pub record IsMerged (marks : List Bool) (first : List Row × ℕ × ℕ) (second : Tally) (report : List Row × ℕ × ℕ) : Type 0 where
  pub rows : report.0 ≡ merged marks first.0 second.rows.items
  pub copied : report.1 ≡ first.1 + second.copied
  pub bytes : report.2 ≡ first.2 + second.bytes

module _ (list : List Entry) (pairs : List Pair) (given : Given list pairs) (piece : ℕ) (first : List Row × ℕ × ℕ) (second : Tally)
    (t t1 t2 : Option Files) (n n1 n2 : ℕ) where
  abbrev rows : List Row
  rows = merged (marks_of piece list) first.0 second.rows.items

  reported : Ran pairs (small_of piece list) (large_of piece list) first second t t1 t2 n n1 n2 → (report : List Row × ℕ × ℕ) →
      IsMerged (marks_of piece list) first second report → Reported list pairs t t2 n n2 report
  reported r report m =
      let lrows = second.rows.items in
      let slim = small_early list pairs given piece first.0 lrows r.said.paths r.said.early r.early_l in
      let Early : Entry → Fate → Type 0 = IsEarly pairs first.0 in
      let done : Row → Bool = λ row. is_done row.1 in
      let failed : Row → Bool = λ row. is_failed row.1 in
      record {
        paths = ap (map (λ (row : Row). row.0)) m.rows
            ∙ row_paths Early (treated list) rows (merged_rows Early piece list first.0 lrows slim r.early_l);
        early = subst (AreEarly list pairs) (sym m.rows)
            (rows_told (IsEarly pairs rows) (treated list) rows (rows_early list pairs given piece first.0 lrows r.said.paths r.said.early r.early_l));
        told = subst (λ own. IfSome t (λ before. IfSome t2 (Copied list pairs own before))) (sym m.rows)
            (copied_told list pairs given piece first.0 lrows r.said.paths r.said.early r.early_l t t1 t2 r.tells_s r.said.told r.told_l r.rest_l);
        copied = m.copied ∙ (λ i. r.said.copied i + r.copied_l i) ∙ sym (merged_count is_done Early piece list first.0 lrows slim r.early_l)
            ∙ ap (count_by done) (sym m.rows);
        bytes = m.bytes ∙ (λ i. r.said.bytes i + r.bytes_l i)
            ∙ sym (merged_sum (λ (one : Told). cond (is_done one.1.1) (bytes_by one.0.stat) 0) Early piece list first.0 lrows slim r.early_l)
            ∙ ap (bytes_copied list) (sym m.rows);
        blamed = subst (λ own. RoseBy (count_by failed own) n n2) (sym m.rows)
            (subst (λ k. RoseBy k n n2) (sym (merged_count is_failed Early piece list first.0 lrows slim r.early_l))
            (rose_both (count_by failed first.0) (count_by failed lrows) n n1 n2 r.said.blamed r.blamed_l));
      }

  -- the same, by the parts as they were told
  reported_by : (small large : List Entry) (marks : List Bool) → small ≡ small_of piece list → large ≡ large_of piece list →
      marks ≡ marks_of piece list → Ran pairs small large first second t t1 t2 n n1 n2 → (report : List Row × ℕ × ℕ) →
      IsMerged marks first second report → Reported list pairs t t2 n n2 report
  reported_by small large marks s l m r report is =
      reported (subst (λ es. Ran pairs es (large_of piece list) first second t t1 t2 n n1 n2) s
      (subst (λ es. Ran pairs small es first second t t1 t2 n n1 n2) l r)) report (subst (λ ms. IsMerged ms first second report) m is)

  pub all_reported : {E : Type 0} (small large : List Entry) (marks : List Bool) → small ≡ small_of piece list → large ≡ large_of piece list →
      marks ≡ marks_of piece list → Ran pairs small large first second t t1 t2 n n1 n2 → (r : Result (List Row × ℕ × ℕ) E) →
      IfOk r (λ report. report.0 ≡ merged marks first.0 second.rows.items) → IfOk r (λ report. report.1 ≡ first.1 + second.copied) →
      IfOk r (λ report. report.2 ≡ first.2 + second.bytes) → IfOk r (Reported list pairs t t2 n n2)
  all_reported small large marks s l m ran (Ok report) own copied bytes =
      reported_by small large marks s l m ran report (record { rows = own; copied = copied; bytes = bytes })
  all_reported small large marks s l m ran (Err e) own copied bytes = tt
