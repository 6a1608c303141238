use Rattle.range_copy.proofs.Prelude.{◌≡◌, ◌∙◌, ◌+◌, ◌++◌, ◌∷◌, [], ap, arith, refl, subst, sym, take, true, IfSome, length-take, take_all, take_more}
use Rattle.range_copy.proofs.Prelude.{all_zipped_more, count_by, list_any, is_within, RoseBy, SameBut, Entry, is_failed, Fate, IsCopied, IsEarly, target_of}
use Rattle.range_copy.proofs.Prelude.{at_of, HasCause, AreRows, IsRow, SameButFor, bytes_over, exceeds}
use Rattle.range_copy.proofs.Folded.{Folded, Numbers, OneMore, folded_more, folded_none, make_at, next_apart, numbers_more, numbers_none, rest_more, rest_whole}
use Rattle.range_copy.proofs.Folded.{place_of, rose_any, rose_more, rose_none, rose_two, still_makes}
use Rattle.range_copy.proofs.folding.copy_each.Given as given
use Rattle.range_copy.proofs.folding.copy_each.Goals as goal
use Rattle.range_copy.proofs.folding.copy_each.Goals.{After-copy_one}

pub loop-entry-init : goal.loop-entry-init
loop-entry-init g c =
    let rows = c.in_ok-with_capacity.field-0.items in
    let none = c.in_ok-with_capacity.ensures.items in
    let t = g.G.Plot.tree c.args.ground.now in
    record {
      folded = folded_none c.args.pairs.now c.args.failed.now.set.keys rows t t none refl;
      numbers = numbers_none rows none;
      blamed = rose_none rows (g.G.Plot.count c.args.ground.now) none;
      shown = subst (AreRows (HasCause g.G.Reader.Tree.gives g.G.Part.Plot.gives g.G.Plot.gives g.G.Plot.area g.G.Plot.count c.args.pairs.now) [])
          (sym none) tt;
      lent = c.requires.lent;
    }

pub copy_one-requires-clause-large : goal.copy_one-requires-clause-large
copy_one-requires-clause-large g c κs within =
    let at = place_of c.args.large.now c.loop-entry.entry-index c.entry-item.result c.loop-entry-test.true c.entry-item.is in
    at_of (λ e. exceeds c.args.piece e ≡ true) c.args.large.now c.requires.large c.loop-entry.entry-index c.entry-item.result at

pub copy_one-requires-clause-in_source : goal.copy_one-requires-clause-in_source
copy_one-requires-clause-in_source g c κs within =
    let at = place_of c.args.large.now c.loop-entry.entry-index c.entry-item.result c.loop-entry-test.true c.entry-item.is in
    at_of (λ e. list_any (λ pair. is_within e.path pair.source) c.args.pairs.now ≡ true) c.args.large.now c.requires.in_source c.loop-entry.entry-index
    c.entry-item.result at

pub copy_one-requires-clause-low : goal.copy_one-requires-clause-low
copy_one-requires-clause-low g c κs within =
    let at = place_of c.args.large.now c.loop-entry.entry-index c.entry-item.result c.loop-entry-test.true c.entry-item.is in
    c.requires.apart.low c.loop-entry.entry-index c.entry-item.result at

pub copy_one-requires-clause-makes : goal.copy_one-requires-clause-makes
copy_one-requires-clause-makes g c κs within =
    let at = place_of c.args.large.now c.loop-entry.entry-index c.entry-item.result c.loop-entry-test.true c.entry-item.is in
    let i = c.loop-entry.invariant in
    let t = g.G.Plot.tree c.args.ground.now in
    still_makes c.args.pairs.now c.args.large.now c.requires.apart c.loop-entry.entry-index c.entry-item.result at c.args.failed.now.set.keys
    t (g.G.Plot.tree c.loop-entry.ground) i.folded.tells i.folded.rest
    (make_at c.args.pairs.now c.args.failed.now.set.keys c.args.large.now c.loop-entry.entry-index c.entry-item.result at t c.requires.makes)

pub note-requires-clause-copied : goal.note-requires-clause-copied
note-requires-clause-copied g c =
    let n = c.loop-entry.invariant.numbers in
    omega (
      arith,
      n.few,
      length-take c.loop-entry.entry-index c.args.large.now,
      c.loop-entry-test.true,
      c.in_ok-with_capacity.ensures.capacity,
      c.in_ok-with_capacity.field-0.small,
    )

pub note-requires-clause-bytes : goal.note-requires-clause-bytes
note-requires-clause-bytes g c =
    let n = c.loop-entry.invariant.numbers in
    omega (
      arith,
      n.small,
      length-take c.loop-entry.entry-index c.args.large.now,
      c.loop-entry-test.true,
      c.in_ok-with_capacity.ensures.capacity,
      c.in_ok-with_capacity.field-0.small,
    )

pub loop-entry-preserved : goal.loop-entry-preserved
loop-entry-preserved g c =
    let pairs = c.args.pairs.now in
    let failed = c.args.failed.now.set.keys in
    let large = c.args.large.now in
    let k = c.loop-entry.entry-index in
    let e = c.entry-item.result in
    let i = c.loop-entry.invariant in
    let own = c.loop-entry.tally.rows.items in
    let fate = c.in_ok-fate.fate in
    let t = g.G.Plot.tree c.args.ground.now in
    let t1 = g.G.Plot.tree c.loop-entry.ground in
    let t2 = g.G.Plot.tree c.copy_one.new.ground in
    let at = place_of large k e c.loop-entry-test.true c.entry-item.is in
    let more : take (k + 1) large ≡ take k large ++ e ∷ [] = take_more large k e c.loop-entry-test.true
    ∙ ap (λ x. take k large ++ x ∷ []) (sym c.entry-item.is)
    in
    let cause : Entry → Fate → Type 0 =
    HasCause g.G.Reader.Tree.gives g.G.Part.Plot.gives g.G.Plot.gives g.G.Plot.area g.G.Plot.count pairs
    in
    let one : OneMore pairs failed e fate t1 t2 = record {
      early = c.in_ok-fate.ensures.early;
      told = c.in_ok-fate.ensures.told;
      others = c.in_ok-fate.ensures.others;
      tells = c.in_ok-fate.ensures.tells;
    } in
    record {
      folded = subst (λ es. Folded pairs failed es c.note.new.tally.rows.items t t2) (sym more)
          (subst (λ rows. Folded pairs failed (take k large ++ e ∷ []) rows t t2) (sym c.in_ok-note.ensures.rows)
          (folded_more pairs failed (take k large) own e fate t t1 t2 (next_apart pairs large c.requires.apart k e at) i.folded one));
      numbers = subst (λ es. Numbers es c.note.new.tally.rows.items c.note.new.tally.copied c.note.new.tally.bytes) (sym more)
          (subst (λ rows. Numbers (take k large ++ e ∷ []) rows c.note.new.tally.copied c.note.new.tally.bytes) (sym c.in_ok-note.ensures.rows)
          (numbers_more (take k large) own e fate c.loop-entry.tally.copied c.loop-entry.tally.bytes c.note.new.tally.copied c.note.new.tally.bytes
          i.numbers c.in_ok-note.ensures.copied c.in_ok-note.ensures.bytes c.in_ok-note.ensures.small));
      blamed = subst (λ rows. RoseBy (count_by (λ row. is_failed row.1) rows)
          (g.G.Plot.count c.args.ground.now) (g.G.Plot.count c.copy_one.new.ground)) (sym c.in_ok-note.ensures.rows)
          (rose_more own e.path fate (g.G.Plot.count c.args.ground.now) (g.G.Plot.count c.loop-entry.ground) (g.G.Plot.count c.copy_one.new.ground)
          i.blamed c.in_ok-fate.ensures.cause);
      shown = subst (λ es. AreRows cause es c.note.new.tally.rows.items) (sym more)
          (subst (AreRows cause (take k large ++ e ∷ [])) (sym c.in_ok-note.ensures.rows)
          (all_zipped_more (IsRow cause) (take k large) own e (e.path, fate) i.shown (refl, c.in_ok-fate.ensures.shown)));
      lent = c.in_ok-fate.ensures.lent;
    }

-- after one file more, every path but the targets is as before
rest_then : (g : given.Over) (c : After-copy_one g) →
    IfSome (g.G.Plot.tree c.loop-entry.ground) (λ before. IfSome (g.G.Plot.tree c.copy_one.new.ground)
    (SameBut (target_of c.args.pairs.now c.entry-item.result.path) before)) →
    IfSome (g.G.Plot.tree c.args.ground.now) (λ before. IfSome (g.G.Plot.tree c.copy_one.new.ground) (SameButFor c.args.pairs.now c.args.large.now before))
rest_then g c others =
    let pairs = c.args.pairs.now in
    let large = c.args.large.now in
    let k = c.loop-entry.entry-index in
    let e = c.entry-item.result in
    let i = c.loop-entry.invariant in
    let t = g.G.Plot.tree c.args.ground.now in
    let t2 = g.G.Plot.tree c.copy_one.new.ground in
    let more : take (k + 1) large ≡ take k large ++ e ∷ [] = take_more large k e c.loop-entry-test.true
    ∙ ap (λ x. take k large ++ x ∷ []) (sym c.entry-item.is)
    in
    rest_whole pairs large (k + 1) t t2 (subst (λ es. IfSome t (λ a. IfSome t2 (SameButFor pairs es a))) (sym more)
    (rest_more pairs (take k large) e t (g.G.Plot.tree c.loop-entry.ground) t2 i.folded.tells i.folded.rest others))

pub returns-in_err-fate-clause-rest : goal.returns-in_err-fate-clause-rest
returns-in_err-fate-clause-rest g c = rest_then g (goal.at.returns-in_err-fate-clause-rest g c).After-copy_one c.in_err-fate.ensures.others

pub returns-in_err-fate-clause-tells : goal.returns-in_err-fate-clause-tells
returns-in_err-fate-clause-tells g c = c.in_err-fate.ensures.tells ∙ c.loop-entry.invariant.folded.tells

pub returns-in_err-fate-clause-count : goal.returns-in_err-fate-clause-count
returns-in_err-fate-clause-count g c = rose_two _ _ _ (rose_any _ _ _ c.loop-entry.invariant.blamed) c.in_err-fate.ensures.count

pub returns-in_err-note-clause-rest : goal.returns-in_err-note-clause-rest
returns-in_err-note-clause-rest g c = rest_then g (goal.at.returns-in_err-note-clause-rest g c).After-copy_one c.in_ok-fate.ensures.others

pub returns-in_err-note-clause-tells : goal.returns-in_err-note-clause-tells
returns-in_err-note-clause-tells g c = c.in_ok-fate.ensures.tells ∙ c.loop-entry.invariant.folded.tells

pub returns-in_err-note-clause-count : goal.returns-in_err-note-clause-count
returns-in_err-note-clause-count g c = rose_two _ _ _ (rose_any _ _ _ c.loop-entry.invariant.blamed) c.in_ok-fate.ensures.count

pub returns-clause-early : goal.returns-clause-early
returns-clause-early g c rows are =
    let i = c.loop-entry.invariant in
    subst (λ es. AreRows (IsEarly c.args.pairs.now rows) es c.loop-entry.tally.rows.items)
    (take_all c.loop-entry.entry-index c.args.large.now (omega (arith, c.loop-entry-test.false))) (i.folded.early rows are)

pub returns-clause-told : goal.returns-clause-told
returns-clause-told g c rows are =
    let i = c.loop-entry.invariant in
    subst (λ es. IfSome (g.G.Plot.tree c.args.ground.now) (λ before. IfSome (g.G.Plot.tree c.loop-entry.ground)
    (λ after. AreRows (IsCopied before after c.args.pairs.now rows) es c.loop-entry.tally.rows.items)))
    (take_all c.loop-entry.entry-index c.args.large.now (omega (arith, c.loop-entry-test.false))) (i.folded.told rows are)

pub returns-clause-shown : goal.returns-clause-shown
returns-clause-shown g c =
    subst (λ es. AreRows (HasCause g.G.Reader.Tree.gives g.G.Part.Plot.gives g.G.Plot.gives g.G.Plot.area g.G.Plot.count c.args.pairs.now) es
    c.loop-entry.tally.rows.items)
    (take_all c.loop-entry.entry-index c.args.large.now (omega (arith, c.loop-entry-test.false))) c.loop-entry.invariant.shown

pub returns-clause-copied : goal.returns-clause-copied
returns-clause-copied g c = c.loop-entry.invariant.numbers.copied_is

pub returns-clause-bytes : goal.returns-clause-bytes
returns-clause-bytes g c =
    subst (λ es. c.loop-entry.tally.bytes ≡ bytes_over es c.loop-entry.tally.rows.items)
    (take_all c.loop-entry.entry-index c.args.large.now (omega (arith, c.loop-entry-test.false))) c.loop-entry.invariant.numbers.bytes_are

pub returns-clause-rest : goal.returns-clause-rest
returns-clause-rest g c = rest_whole c.args.pairs.now c.args.large.now c.loop-entry.entry-index (g.G.Plot.tree c.args.ground.now)
    (g.G.Plot.tree c.loop-entry.ground) c.loop-entry.invariant.folded.rest

pub returns-clause-tells : goal.returns-clause-tells
returns-clause-tells g c = c.loop-entry.invariant.folded.tells

pub returns-clause-count : goal.returns-clause-count
returns-clause-count g c = rose_any _ _ _ c.loop-entry.invariant.blamed
