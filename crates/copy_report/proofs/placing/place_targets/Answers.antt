use Rattle.copy_report.proofs.Prelude.{rules, ◌≡◌, ◌<◌, ◌^◌, Ok, IfSome, subst, All, capped, IsPair, IsWhy, placed_over, side_of, Places}
use Rattle.copy_report.proofs.Placed.{places, are_placed, stops_placing, taken_back}
use Rattle.copy_report.proofs.placing.place_targets.Given as given
use Rattle.copy_report.proofs.placing.place_targets.Goals as goal
use Rattle.copy_report.proofs.placing.place_targets.Goals.{After-see_ends}

pub returns-in_err-pairs-clause-stopped : goal.returns-in_err-pairs-clause-stopped
returns-in_err-pairs-clause-stopped g c =
    let count = g.G.Plot.count in
    let seen = g.G.Reader.Tree.count in
    let told = c.in_err-pairs.ensures in
    let sources = c.args.sources.now in
    let dest = c.args.dest.now in
    let before = side_of g.G.Plot c.args.files.now in
    let after = side_of g.G.Plot c.take_reader.new.self in
    let reader = c.in_ok-reader.reader in
    let below : count c.args.files.now < 2 ^ 64 = search rules in
    let why = subst (λ t. IfSome t (λ files. IsWhy (placed_over files dest sources) c.in_err-pairs.field-0.0)) c.in_ok-reader.ensures.told told.why in
    let is = subst (λ n. count c.take_reader.new.self ≡ capped n (seen c.place-pairs.new.reader)) c.in_ok-reader.ensures.count c.take_reader.ensures.count in
    let stops = stops_placing g.G.Reader.Tree.gives sources dest before after (seen reader) (seen c.place-pairs.new.reader) reader c.place-pairs.new.reader
    c.in_err-pairs.field-0.0 why told.stopped
    told.counted (taken_back (count c.args.files.now) (count c.take_reader.new.self) (seen reader) (seen c.place-pairs.new.reader) below
    c.in_ok-reader.ensures.zero is)
    in
    search rules

-- the targets are those that the tree asks for
placed_by : (g : given.Over) (c : After-see_ends g) →
    Places c.args.sources.now c.args.dest.now (g.G.Plot.tree c.args.files.now) (Ok c.in_ok-pairs.pairs.items)
placed_by g c =
    let sources = c.args.sources.now in
    let dest = c.args.dest.now in
    let pairs = c.in_ok-pairs.pairs.items in
    let told = c.in_ok-pairs.ensures in
    let here = subst (λ t. IfSome t (λ files. placed_over files dest sources ≡ Ok pairs)) c.in_ok-reader.ensures.told told.told in
    places sources dest (g.G.Plot.tree c.args.files.now) (Ok pairs) told.ended.in_dir told.ended.over_dir told.ended.is_due here

pub returns-clause-places : goal.returns-clause-places
returns-clause-places g c = placed_by g (goal.at.returns-clause-places g c).After-see_ends

pub returns-clause-placed : goal.returns-clause-placed
returns-clause-placed g c =
    are_placed c.placed_are_apart.ensures c.args.sources.now c.args.dest.now (g.G.Plot.tree c.args.files.now) c.in_ok-pairs.pairs.items
    c.text.ensures.valid (placed_by g (goal.at.returns-clause-placed g c).After-see_ends) c.in_ok-pairs.ensures.sources
    (subst (All IsPair) c.deref.ensures.value c.see_ends.ensures)
