use Rattle.path_looks.proofs.Prelude.{subst, sym, RoseBy, IsSeen, faults_in}
use Rattle.path_looks.proofs.Told.{seen_as_told, counted_as_seen}
use Rattle.path_looks.proofs.looking.look_at.Goals as goal

pub returns-clause-told : goal.returns-clause-told
returns-clause-told g c =
    subst (IsSeen (g.T.Tree.tree c.args.reader.now) c.args.path) (sym c.by_stat-seen.ensures)
    (seen_as_told (g.T.Tree.tree c.args.reader.now) c.args.path c.stat-answer.result c.stat-answer.ensures.told)

pub returns-clause-counted : goal.returns-clause-counted
returns-clause-counted g c =
    let count = g.T.Tree.count in
    subst (λ s. RoseBy (faults_in s) (count c.args.reader.now) (count c.stat-answer.new.self)) (sym c.by_stat-seen.ensures)
    (counted_as_seen (count c.args.reader.now) (count c.stat-answer.new.self) c.stat-answer.result c.stat-answer.ensures.ok c.stat-answer.ensures.cause)
