use Rattle.checkpoints.proofs.Prelude.{rules, ℕ, List, ◌<◌, ◌≤◌, ◌∙◌, inl, inr, ap, subst, map, length, Vec, Global, arith, IfNone, length-map, on_ok_weaker}
use Rattle.checkpoints.proofs.Prelude.{Path, side_of, list_path, StopsWriting}
use Rattle.run_report.specs.declared.stops.Trouble.TheVariants as trouble
use Rattle.run_report.specs.declared.stops.Stop.TheVariants as stop
use Rattle.checkpoints.proofs.Removed.{on_err}
use Rattle.checkpoints.proofs.Stopped.{kept_stops, ranks_stop, list_stop}
use Rattle.checkpoints.proofs.Written.{all_kept, all_newest, all_rest, cleared_rest, kept_rest, kept_torn, list_torn, named_at, ranks_rest, ranks_torn}
use Rattle.checkpoints.proofs.Written.{still_torn}
use Rattle.checkpoints.proofs.writing.write_checkpoint.Goals as goal

-- the strings that each rank left
abbrev strings : List (Vec Path Global) → List (List (List ℕ))
strings left = map (λ (list : Vec Path Global). list.items) left

few_strings : (left : List (Vec Path Global)) → length left ≤ 64 → length (strings left) ≤ 64
few_strings left few = omega (arith, length-map left (λ (list : Vec Path Global). list.items))

pub returns-in_default-clause-stopped : goal.returns-in_default-clause-stopped
returns-in_default-clause-stopped g c =
    let dir = c.args.dir.now in
    let long = subst (λ o. IfNone o (4095 < length (list_path dir))) c.in_default.is c.in_ok-path.ensures.none in
    inr (inl (record { long = long; told = ap (λ path. stop.ListFile trouble.NoPlace path) c.in_ok-copy.ensures }))

pub returns-in_err-path-clause-torn : goal.returns-in_err-path-clause-torn
returns-in_err-path-clause-torn g c =
    on_err _ c.from_residual.result (still_torn c.args.dir.now (strings c.args.left.now) (g.G.Plot.tree c.args.files.now))

pub returns-in_default-clause-torn : goal.returns-in_default-clause-torn
returns-in_default-clause-torn g c =
    still_torn c.args.dir.now (strings c.args.left.now) (g.G.Plot.tree c.args.files.now)

pub returns-in_err-copy-clause-torn : goal.returns-in_err-copy-clause-torn
returns-in_err-copy-clause-torn g c =
    on_err _ c.from_residual-in_err-copy.result (still_torn c.args.dir.now (strings c.args.left.now) (g.G.Plot.tree c.args.files.now))

pub clear_list-requires-clause-named : goal.clear_list-requires-clause-named
clear_list-requires-clause-named g c = named_at c.args.dir.now c.in-Some.is c.in_ok-path.ensures.some

-- ---- the old list file was not removed

pub returns-in_err-clear_list-clause-rest : goal.returns-in_err-clear_list-clause-rest
returns-in_err-clear_list-clause-rest g c =
    kept_rest c.args.dir.now (length c.args.left.now) (g.G.Plot.tree c.args.files.now) (g.G.Plot.tree c.clear_list.new.files)
    c.in_err-clear_list.ensures.same

pub returns-in_err-clear_list-clause-torn : goal.returns-in_err-clear_list-clause-torn
returns-in_err-clear_list-clause-torn g c =
    on_err _ c.from_residual-in_err-clear_list.result
    (kept_torn c.args.dir.now (strings c.args.left.now) (g.G.Plot.tree c.args.files.now) (g.G.Plot.tree c.clear_list.new.files)
    c.in_err-clear_list.ensures.same)

pub returns-in_err-clear_list-clause-stopped : goal.returns-in_err-clear_list-clause-stopped
returns-in_err-clear_list-clause-stopped g c =
    let before = side_of g.G.Plot c.args.files.now in
    let after = side_of g.G.Plot c.clear_list.new.files in
    let why = c.in_err-clear_list.field-0.0 in
    let stops : StopsWriting c.args.dir.now (length c.args.left.now) c.args.done.now before after why =
    kept_stops c.args.dir.now (length c.args.left.now) c.args.done.now before after why c.in_err-clear_list.ensures.stopped in
    search rules

-- ---- the ranks' files were not written

pub returns-in-Err-clause-rest : goal.returns-in-Err-clause-rest
returns-in-Err-clause-rest g c =
    let new = g.G.Plot.tree c.write_lists.new.ground in
    let ranks = length c.args.left.now in
    cleared_rest c.args.dir.now ranks _ _ new c.in_ok-clear_list.ensures.cleared
    (ranks_rest c.args.dir.now ranks (g.G.Plot.tree c.clear_list.new.files) new c.write_lists.ensures.rest)

pub returns-in-Err-clause-torn : goal.returns-in-Err-clause-torn
returns-in-Err-clause-torn g c =
    ranks_torn c.args.dir.now (strings c.args.left.now) (length c.args.left.now) _ _ (g.G.Plot.tree c.write_lists.new.ground)
    (omega (arith, c.requires.few)) c.in_ok-clear_list.ensures.cleared c.write_lists.ensures.rest

pub returns-in-Err-clause-stopped : goal.returns-in-Err-clause-stopped
returns-in-Err-clause-stopped g c =
    let after = side_of g.G.Plot c.write_lists.new.ground in
    ranks_stop c.args.dir.now (length c.args.left.now) c.args.done.now _ _ after c.in-Err.error _ c.in_ok-clear_list.ensures.cleared
    c.write_lists.ensures.count.kept c.in-Err.ensures.stopped c.stop_of_lists.ensures c.write_lists.ensures.rest

-- ---- they were

pub returns-clause-kept : goal.returns-clause-kept
returns-clause-kept g c =
    let tree = g.G.Plot.tree in
    on_ok_weaker c.save_list.result
    (all_kept c.args.dir.now c.in-Some.path c.args.done.now (strings c.args.left.now) (tree c.write_lists.new.ground) (tree c.save_list.new.files)
    (named_at c.args.dir.now c.in-Some.is c.in_ok-path.ensures.some) (few_strings _ c.requires.few) c.in_default-write_lists.ensures.written)
    c.save_list.ensures.saved

pub returns-clause-newest : goal.returns-clause-newest
returns-clause-newest g c =
    on_ok_weaker c.save_list.result
    (all_newest c.args.dir.now c.in-Some.path c.args.done.now (g.G.Plot.tree c.write_lists.new.ground) (g.G.Plot.tree c.save_list.new.files)
    (named_at c.args.dir.now c.in-Some.is c.in_ok-path.ensures.some))
    c.save_list.ensures.saved

pub returns-clause-rest : goal.returns-clause-rest
returns-clause-rest g c =
    let new = g.G.Plot.tree c.save_list.new.files in
    let ranks = length c.args.left.now in
    cleared_rest c.args.dir.now ranks _ _ new c.in_ok-clear_list.ensures.cleared
    (all_rest c.args.dir.now c.in-Some.path ranks (g.G.Plot.tree c.clear_list.new.files) (g.G.Plot.tree c.write_lists.new.ground) new
    (named_at c.args.dir.now c.in-Some.is c.in_ok-path.ensures.some)
    (record { tells = c.write_lists.ensures.tells; rest = c.write_lists.ensures.rest }) c.save_list.ensures.rest)

pub returns-clause-torn : goal.returns-clause-torn
returns-clause-torn g c =
    let tree = g.G.Plot.tree in
    on_err _ c.save_list.result
    (list_torn c.args.dir.now c.in-Some.path (strings c.args.left.now) (tree c.args.files.now) (tree c.write_lists.new.ground) (tree c.save_list.new.files)
    (named_at c.args.dir.now c.in-Some.is c.in_ok-path.ensures.some) (few_strings _ c.requires.few) c.in_default-write_lists.ensures.written
    c.save_list.ensures.rest
    (c.write_lists.ensures.tells ∙ c.clear_list.ensures.tells))

pub returns-clause-stopped : goal.returns-clause-stopped
returns-clause-stopped g c =
    let last = side_of g.G.Plot c.write_lists.new.ground in
    let after = side_of g.G.Plot c.save_list.new.files in
    let between = side_of g.G.Plot c.clear_list.new.files in
    list_stop c.args.dir.now c.in-Some.path (length c.args.left.now) c.args.done.now _ between last after c.save_list.result
    (named_at c.args.dir.now c.in-Some.is c.in_ok-path.ensures.some) c.in_ok-clear_list.ensures.cleared
    (record {
      places = c.in_default-write_lists.ensures.places;
      tells = c.write_lists.ensures.tells;
      rest = c.write_lists.ensures.rest;
      kept = c.write_lists.ensures.count.kept;
    })
    (omega (arith, c.write_lists.ensures.count.kept, c.save_list.ensures.count.kept)) c.save_list.ensures.stopped
