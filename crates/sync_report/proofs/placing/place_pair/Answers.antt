use Rattle.sync_report.proofs.Prelude.{rules, ◌≡◌, ◌<◌, ◌^◌, IfErr, IfSome, subst, capped, IsSyncWhy, sync_placed_over, side_of}
use Rattle.sync_report.proofs.Placed.{stops_placing, taken_back}
use Rattle.sync_report.proofs.placing.place_pair.Goals as goal

pub returns-clause-stopped : goal.returns-clause-stopped
returns-clause-stopped g c =
    let count = g.G.Plot.count in
    let seen = g.G.Reader.Tree.count in
    let pair = c.args.pair.now in
    let made = c.in_ok-reader in
    let told = c.sync_place-placed in
    let before = side_of g.G.Plot c.args.files.now in
    let after = side_of g.G.Plot c.take_reader.new.self in
    let below : count c.args.files.now < 2 ^ 64 = search rules in
    let is = subst (λ n. count c.take_reader.new.self ≡ capped n (seen told.new.reader)) made.ensures.count c.take_reader.ensures.count in
    let why = subst (λ t. IfErr told.result (λ e. IfSome t (λ files. IsSyncWhy (sync_placed_over files pair.source pair.target) e))) made.ensures.told
    told.ensures.why in
    stops_placing g.G.Reader.Tree.gives pair before after (seen made.reader) (seen told.new.reader) made.reader told.new.reader told.result why
    told.ensures.stopped told.ensures.counted
    (taken_back (count c.args.files.now) (count c.take_reader.new.self) (seen made.reader) (seen told.new.reader) below made.ensures.zero is)
