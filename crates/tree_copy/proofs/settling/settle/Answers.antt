use Rattle.tree_copy.proofs.Prelude.{◌≡◌, ◌∙◌, ◌+◌, ◌<◌, ap, arith, length, drop, sym, not, false, subst, get_or, map, ◌∷◌, ◌++◌, [], length-append, Some}
use Rattle.tree_copy.proofs.Prelude.{slice_get, length-map, into_iter_items, paths, slice_get-get_or, zip, treated, fitting}
use Rattle.tree_copy.proofs.Tallies.{Tallied, at_end, both_parts, fate_left, firsts, row_more, seconds, IsFate, IsNoted, few_more, has_mark, left_skipped}
use Rattle.tree_copy.proofs.Tallies.{moved_on, path_step, some_left, next_of, passed, skipped}
use Rattle.tree_copy.proofs.settling.settle.Goals as goal
use Rattle.tree_copy.proofs.settling.settle.Goals.{After-len}

pub loop-cursor-preserved-then-is_none : goal.loop-cursor-preserved-then-is_none
loop-cursor-preserved-then-is_none c =
    let at = moved_on c.loop-cursor.cursor c.advance.new.self c.in_ok-advance.field-0 c.in_ok-advance.ensures.passed c.if-branch.true in
    let next = next_of c.args.list.now c.advance.new.self.0 c.loop-cursor.cursor.1 c.advance.new.self.1 c.entry-entry.result.now
    (at.0 ∙ c.loop-cursor.invariant.of_list) c.entry-entry.ensures.at at.1 in
    record {
      of_list = at.0 ∙ c.loop-cursor.invariant.of_list;
      inside = omega (arith, c.in_ok-advance.ensures.inside, ap length (at.0 ∙ c.loop-cursor.invariant.of_list));
      behind = c.loop-cursor.invariant.behind;
      so_far = skipped (treated c.args.list.now) c.args.fits.now c.args.outcome.now (drop c.advance.new.self.1 c.args.list.now)
          (drop c.loop-cursor.cursor.1 c.args.list.now) c.entry-entry.result.now
          _ _ _ _ _ _ next (c.is_none.ensures ∙ ap not c.if-is_none.true) c.loop-cursor.invariant.so_far;
      left = left_skipped (drop (length c.loop-cursor.tally.rows.items) c.args.fits.now) (drop c.loop-cursor.cursor.1 c.args.list.now)
          (drop c.advance.new.self.1 c.args.list.now) c.entry-entry.result.now _ next (c.is_none.ensures ∙ ap not c.if-is_none.true)
          c.loop-cursor.invariant.left;
      left_len = c.loop-cursor.invariant.left_len;
    }

-- The loop at an entry that has a stat

-- the rows are as many as the vector tells
rows_len : (c : After-len) → c.len.result ≡ length c.loop-cursor.tally.rows.items
rows_len c = omega (arith, c.len.ensures, c.loop-cursor.tally.rows.ok.0)

-- the entry and those behind it are left
next : (c : After-len) → drop c.loop-cursor.cursor.1 c.args.list.now ≡ c.entry-entry.result.now ∷ drop c.advance.new.self.1 c.args.list.now
next c =
    let at = moved_on c.loop-cursor.cursor c.advance.new.self c.in_ok-advance.field-0 c.in_ok-advance.ensures.passed c.if-branch.true in
    next_of c.args.list.now c.advance.new.self.0 c.loop-cursor.cursor.1 c.advance.new.self.1 c.entry-entry.result.now
    (at.0 ∙ c.loop-cursor.invariant.of_list) c.entry-entry.ensures.at at.1

-- all before it are tallied
before : (c : After-len) → Tallied (treated c.args.list.now) c.args.fits.now c.args.outcome.now
    (treated (drop c.loop-cursor.cursor.1 c.args.list.now)) (drop c.len.result c.args.fits.now) (drop c.loop-cursor.place c.args.outcome.now)
    (firsts c.loop-cursor.tally.rows.items) (seconds c.loop-cursor.tally.rows.items) c.loop-cursor.tally.copied c.loop-cursor.tally.bytes
before c = subst (λ n. Tallied (treated c.args.list.now) c.args.fits.now c.args.outcome.now
    (treated (drop c.loop-cursor.cursor.1 c.args.list.now)) (drop n c.args.fits.now) (drop c.loop-cursor.place c.args.outcome.now)
    (firsts c.loop-cursor.tally.rows.items) (seconds c.loop-cursor.tally.rows.items) c.loop-cursor.tally.copied c.loop-cursor.tally.bytes)
    (sym (rows_len c)) c.loop-cursor.invariant.so_far

-- it has a mark
here : (c : After-len) → c.len.result < length c.args.fits.now
here c = has_mark (treated c.args.list.now) c.args.fits.now c.args.outcome.now (drop c.advance.new.self.1 c.args.list.now)
    (drop c.loop-cursor.cursor.1 c.args.list.now) c.entry-entry.result.now c.len.result c.loop-cursor.place _ _ _ _ (next c)
    (c.is_none.ensures ∙ ap not c.if-is_none.false) (before c)

mark : (c : After-len) → slice_get c.args.fits.now c.len.result ≡ Some (get_or c.args.fits.now c.len.result false)
mark c = slice_get-get_or c.args.fits.now c.len.result false (here c)

-- the items that are left are those of the entries that are left
left : (c : After-len) → map (λ x. x.entry.path) (into_iter_items c.loop-cursor.items)
    ≡ fitting (drop c.len.result c.args.fits.now) (paths (treated (drop c.loop-cursor.cursor.1 c.args.list.now)))
left c = c.loop-cursor.invariant.left
    ∙ ap (λ n. fitting (drop n c.args.fits.now) (paths (treated (drop c.loop-cursor.cursor.1 c.args.list.now)))) (sym (rows_len c))

pub bounds-fits-len : goal.bounds-fits-len
bounds-fits-len c = here (goal.at.bounds-fits-len c).After-len

pub fate_of-fate-requires : goal.fate_of-fate-requires
fate_of-fate-requires c = λ on.
    let at = (goal.at.fate_of-fate-requires c).After-len in
    fate_left (treated c.args.list.now) c.args.fits.now c.args.outcome.now (drop c.advance.new.self.1 c.args.list.now)
    (drop c.loop-cursor.cursor.1 c.args.list.now) c.entry-entry.result.now c.len.result c.loop-cursor.place _ _ _ _ (next at)
    (mark at ∙ ap Some on) (before at)

pub path_of-requires : goal.path_of-requires
path_of-requires c = λ on.
    let at = (goal.at.path_of-requires c).After-len in
    omega (
      arith,
      some_left c.args.fits.now c.len.result (get_or c.args.fits.now c.len.result false) (drop c.loop-cursor.cursor.1 c.args.list.now)
          (drop c.advance.new.self.1 c.args.list.now) c.entry-entry.result.now (map (λ x. x.entry.path) (into_iter_items c.loop-cursor.items))
          (next at) (c.is_none.ensures ∙ ap not c.if-is_none.false) (mark at) (left at) on,
      c.loop-cursor.invariant.left_len,
      length-map (into_iter_items c.loop-cursor.items) (λ x. x.entry.path),
    )

pub loop-cursor-preserved : goal.loop-cursor-preserved
loop-cursor-preserved c =
    let at = (goal.at.loop-cursor-preserved c).After-len in
    let some = c.is_none.ensures ∙ ap not c.if-is_none.false in
    let len = rows_len at in
    let of_list = (moved_on c.loop-cursor.cursor c.advance.new.self c.in_ok-advance.field-0 c.in_ok-advance.ensures.passed c.if-branch.true).0
    ∙ c.loop-cursor.invariant.of_list in
    let one : length c.note.new.tally.rows.items ≡ c.len.result + 1 =
    omega (arith, len, ap length c.in_ok-note.ensures.rows, length-append c.loop-cursor.tally.rows.items ((c.in_ok-path.path, c.fate_of-fate.result) ∷ [])) in
    let lead = path_step c.args.fits.now c.len.result (length c.note.new.tally.rows.items) (get_or c.args.fits.now c.len.result false)
    (drop c.loop-cursor.cursor.1 c.args.list.now) (drop c.advance.new.self.1 c.args.list.now) c.entry-entry.result.now c.in_ok-path.path
    (map (λ x. x.entry.path) (into_iter_items c.loop-cursor.items)) (map (λ x. x.entry.path) (into_iter_items c.path_of.new.items))
    (next at) some (mark at) one (left at)
    c.in_ok-path.ensures.taken c.in_ok-path.ensures.copied (λ off. ap (map (λ x. x.entry.path)) (c.in_ok-path.ensures.kept off))
    in
    let noted : IsNoted c.entry-entry.result.now c.fate_of-fate.result (firsts c.loop-cursor.tally.rows.items) (seconds c.loop-cursor.tally.rows.items)
    c.loop-cursor.tally.copied c.loop-cursor.tally.bytes
    (firsts c.note.new.tally.rows.items) (seconds c.note.new.tally.rows.items) c.note.new.tally.copied c.note.new.tally.bytes = record {
      told_is = (row_more _ _ _ _ c.in_ok-note.ensures.rows).0 ∙ ap (λ p. firsts c.loop-cursor.tally.rows.items ++ p ∷ []) lead.0;
      fates_is = (row_more _ _ _ _ c.in_ok-note.ensures.rows).1;
      copied_is = c.in_ok-note.ensures.copied;
      bytes_is = c.in_ok-note.ensures.bytes;
      gain_small = c.in_ok-note.ensures.small;
    } in
    let known : IsFate c.entry-entry.result.now c.args.outcome.now c.loop-cursor.place (get_or c.args.fits.now c.len.result false)
    c.fate_of-fate.result = record {
      fits = c.fate_of-fate.ensures.fits;
      long = c.fate_of-fate.ensures.long;
    } in
    record {
      of_list = of_list;
      inside = omega (arith, c.in_ok-advance.ensures.inside, ap length of_list);
      behind = few_more (get_or c.args.fits.now c.len.result false) c.loop-cursor.place c.place_after-place.result c.len.result
          (length c.note.new.tally.rows.items) c.place_after-place.ensures one
          (omega (arith, len, c.loop-cursor.invariant.behind));
      so_far = passed (treated c.args.list.now) c.args.fits.now c.args.outcome.now (drop c.advance.new.self.1 c.args.list.now)
          (drop c.loop-cursor.cursor.1 c.args.list.now) c.entry-entry.result.now
          c.len.result (length c.note.new.tally.rows.items) c.loop-cursor.place c.place_after-place.result (get_or c.args.fits.now c.len.result false)
          c.fate_of-fate.result _ _ _ _ _ _ _ _
          (next at) some (mark at) known c.place_after-place.ensures one noted (before at);
      left = lead.1;
      left_len = c.in_ok-path.ensures.len c.loop-cursor.invariant.left_len;
    }

pub returns-clause-rows : goal.returns-clause-rows
returns-clause-rows c =
    let end = at_end c.args.list.now c.args.fits.now c.args.outcome.now c.loop-cursor.cursor c.in_ok-advance.field-0 _ _ _ _ _ _
    c.requires.fits c.loop-cursor.invariant.of_list c.in_ok-advance.ensures.answer c.if-branch.false c.loop-cursor.invariant.so_far in
    both_parts _ ∙ (λ i. zip (end.paths_are i) (end.fates_are i))

pub returns-clause-copied : goal.returns-clause-copied
returns-clause-copied c = (at_end c.args.list.now c.args.fits.now c.args.outcome.now c.loop-cursor.cursor c.in_ok-advance.field-0 _ _ _ _ _ _
    c.requires.fits c.loop-cursor.invariant.of_list c.in_ok-advance.ensures.answer c.if-branch.false c.loop-cursor.invariant.so_far).copied_is

pub returns-clause-bytes : goal.returns-clause-bytes
returns-clause-bytes c = (at_end c.args.list.now c.args.fits.now c.args.outcome.now c.loop-cursor.cursor c.in_ok-advance.field-0 _ _ _ _ _ _
    c.requires.fits c.loop-cursor.invariant.of_list c.in_ok-advance.ensures.answer c.if-branch.false c.loop-cursor.invariant.so_far).bytes_are
