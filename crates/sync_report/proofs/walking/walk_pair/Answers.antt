use Rattle.sync_report.proofs.Prelude.{rules, ◌∙◌, subst, side_of, StopsEitherWalk, WalksBoth}
use Rattle.sync_report.proofs.Ready.{Laws, ready}
use Rattle.sync_report.proofs.walking.walk_pair.Goals as goal

pub returns-clause-walks : goal.returns-clause-walks
returns-clause-walks g c =
    let sides = c.in_ok-sides.sides in
    let before = side_of g.G.Plot c.args.files.now in
    let after = side_of g.G.Plot c.walk_sides.new.files in
    subst (λ s. WalksBoth s c.args.pair.now.target sides.left sides.right before after) c.in_ok-source.ensures
    (subst (λ t. WalksBoth c.in_ok-source.source t sides.left sides.right before after) c.in_ok-dest.ensures c.in_ok-sides.ensures.walks)

pub returns-in_err-sides-clause-stopped : goal.returns-in_err-sides-clause-stopped
returns-in_err-sides-clause-stopped g c =
    let pair = c.args.pair.now in
    let why = c.in_err-sides.field-0.0 in
    let before = side_of g.G.Plot c.args.files.now in
    let after = side_of g.G.Plot c.walk_sides.new.files in
    let stops : StopsEitherWalk pair.source pair.target before after why =
    subst (λ s. StopsEitherWalk s pair.target before after why) c.in_ok-source.ensures
    (subst (λ t. StopsEitherWalk c.in_ok-source.source t before after why) c.in_ok-dest.ensures c.in_err-sides.ensures.stopped) in
    search (rules, stops, c.from_residual-in_err-sides.ensures)

pub returns-clause-ready : goal.returns-clause-ready
returns-clause-ready g c =
    let tree = g.G.Plot.tree in
    let count = g.G.Plot.count in
    let pair = c.args.pair.now in
    let told = c.in_ok-sides.ensures in
    let sides = c.in_ok-sides.sides in
    let before = side_of g.G.Plot c.args.files.now in
    let after = side_of g.G.Plot c.walk_sides.new.files in
    let laws : Laws = record {
      tells = c.entries_are_told.ensures;
      parents = c.entries_have_parents.ensures;
      lists = c.walk_lists_all.ensures;
      unique = c.roots_are_unique.ensures;
      paths = c.nodes_have_paths.ensures;
    } in
    let walks = subst (λ s. WalksBoth s pair.target sides.left sides.right before after) c.in_ok-source.ensures
    (subst (λ t. WalksBoth c.in_ok-source.source t sides.left sides.right before after) c.in_ok-dest.ensures told.walks) in
    ready laws pair sides (tree c.args.files.now) (count c.args.files.now) after c.requires.placed told.are
    (told.tops.0 ∙ c.in_ok-source.ensures, told.tops.1 ∙ c.in_ok-dest.ensures) walks
