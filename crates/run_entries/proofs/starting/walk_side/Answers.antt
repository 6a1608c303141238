use Rattle.run_entries.proofs.Prelude.{subst, sym, roots, side_of, StopsListing}
use Rattle.std.proofs.Common.{Ok}
use Rattle.run_entries.proofs.Told.{walked_from, told, stops}
use Rattle.run_entries.proofs.starting.walk_side.Goals as goal

pub returns-in-Ok-clause-walked : goal.returns-in-Ok-clause-walked
returns-in-Ok-clause-walked g c =
    walked_from (side_of g.G.Plot c.args.files.now) (side_of g.G.Plot c.walk_roots.new.files) c.args.given.items c.in_ok-roots.roots.items
    c.in-Ok.entries.list c.in_ok-roots.ensures c.in-Ok.ensures.found

pub returns-in-Ok-clause-told : goal.returns-in-Ok-clause-told
returns-in-Ok-clause-told g c =
    let before = side_of g.G.Plot c.args.files.now in
    let after = side_of g.G.Plot c.walk_roots.new.files in
    told c.args.common.now before after c.args.given.items c.in_ok-roots.roots.items (Ok c.in-Ok.entries) c.in_ok-roots.ensures c.in-Ok.ensures.found
    c.in-Ok.ensures.account

pub returns-in-Err-clause-stopped : goal.returns-in-Err-clause-stopped
returns-in-Err-clause-stopped g c =
    let before = side_of g.G.Plot c.args.files.now in
    let after = side_of g.G.Plot c.walk_roots.new.files in
    subst (StopsListing (roots c.args.given.items) before after) (sym c.stop_of_walk.ensures)
    (stops before after c.args.given.items c.in_ok-roots.roots.items c.in-Err.why c.in_ok-roots.ensures c.in-Err.ensures.too_many)
