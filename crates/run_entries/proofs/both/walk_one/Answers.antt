use Rattle.run_entries.proofs.Prelude.{◌∷◌, [], subst, side_of, Walked}
use Rattle.run_entries.proofs.Sided.{is_side, stats_told}
use Rattle.run_entries.proofs.both.walk_one.Given as given
use Rattle.run_entries.proofs.both.walk_one.Goals as goal
use Rattle.run_entries.proofs.both.walk_one.Goals.{After-paths_are_valid}

-- the one path was walked
walked : (g : given.Over) (c : After-paths_are_valid g) →
    Walked (c.args.top.now ∷ []) c.in_ok-list.field-0.list (side_of g.G.Plot c.args.files.now) (side_of g.G.Plot c.walk_side.new.files)
walked g c =
    let before = side_of g.G.Plot c.args.files.now in
    let after = side_of g.G.Plot c.walk_side.new.files in
    subst (λ given. Walked given c.in_ok-list.field-0.list before after) c.in_ok-given.ensures c.in_ok-list.ensures.walked

pub returns-clause-side : goal.returns-clause-side
returns-clause-side g c =
    is_side c.args.top.now c.in_ok-list.field-0.list _ _ c.requires.top (walked g (goal.at.returns-clause-side g c).After-paths_are_valid)
    c.paths_are_valid.ensures c.in_ok-list.ensures.ascend

pub returns-clause-told : goal.returns-clause-told
returns-clause-told g c =
    stats_told c.entries_are_told.ensures (c.args.top.now ∷ []) c.in_ok-list.field-0.list _ _
    (walked g (goal.at.returns-clause-told g c).After-paths_are_valid)
