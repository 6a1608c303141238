use Rattle.tree_walk.proofs.Prelude.{ap, ◌∙◌, ◌++◌, ◌∷◌, [], map, List, subst, sym, joined, Listing, AllByRecursion, IsAnswered, log_of, held_of, all_join}
use Rattle.tree_walk.proofs.Held.{IsStep, step_holds, step_log}
use Rattle.tree_walk.proofs.keeping.handle_path.Given as given
use Rattle.tree_walk.proofs.keeping.handle_path.Goals as goal
use Rattle.tree_walk.proofs.keeping.handle_path.Goals.{In-Ok-keep}

-- A path that was looked at and kept is a step.
stepped : (g : given.Over) (c : In-Ok-keep g)
    → IsStep (g.R.Tree.tree c.args.reader.now) (g.R.Tree.tree c.look.new.reader) (g.R.Tree.count c.args.reader.now) (g.R.Tree.count c.look.new.reader)
    (held_of c.args.entries.now c.args.names.now.items) (held_of c.keep.new.entries c.keep.new.names.items)
    c.in_ok-path.path c.push_children.new.fresh c.in_ok-entry.entry c.in_ok-entry.listing
stepped g c =
    let entry = c.in_ok-entry.entry in
    let children = map (joined entry.path) c.in_ok-entry.listing.0 in
    record {
      look = c.in_ok-entry.ensures.look;
      same = c.in_ok-entry.ensures.same;
      kept = c.in-Ok-keep.ensures.held
          ∙ ap (λ (ls : List Listing). held_of c.args.entries.now ls ++ (entry, children) ∷ []) c.reserve.ensures.items;
      pushed = c.in-Ok.ensures ∙ ap (λ x. x ++ children) c.requires.empty;
    }

pub returns-clause-holds : goal.returns-clause-holds
returns-clause-holds g c = step_holds (stepped g (goal.at.returns-clause-holds g c).In-Ok-keep) c.requires.holds

pub returns-clause-ok : goal.returns-clause-ok
returns-clause-ok g c =
    let old = held_of c.args.entries.now c.args.names.now.items in
    step_log (stepped g (goal.at.returns-clause-ok g c).In-Ok-keep)
    ∙ ap (λ x. log_of old ++ (x, c.push_children.new.fresh) ∷ []) c.in_ok-path.ensures

pub returns-clause-answered : goal.returns-clause-answered
returns-clause-answered g c =
    let P = IsAnswered g.R.Tree.gives in
    subst (AllByRecursion P) (sym c.in-Ok-keep.ensures.added)
    (all_join P c.args.entries.now (c.in_ok-entry.entry ∷ []) c.requires.answered (c.in_ok-entry.ensures.answered, tt))
