use Rattle.flat_list.proofs.Prelude.{◌≡◌, ◌++◌, ◌∷◌, [], ◌∙◌, ap}
use Rattle.flat_list.proofs.Cuts.{closed}
use Rattle.flat_list.proofs.runs.Pieces.end.Goals as goal

pub returns-clause-moved : goal.returns-clause-moved
returns-clause-moved c =
    let run = c.in_ok-run.run' in
    let runs = c.args.self.now.runs.items in
    let more : c.push.new.self.items ≡ runs ++ run ∷ [] = c.in_ok-push.ensures.items ∙ ap (λ held. held.items ++ run ∷ []) c.run.ensures.runs in
    closed runs c.push.new.self.items c.args.self.now.piece run c.clear.new.self more c.in_ok-run.ensures.run c.clear.ensures
