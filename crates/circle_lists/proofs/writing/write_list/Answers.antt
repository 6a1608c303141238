use Rattle.circle_lists.proofs.Prelude.{◌≡◌, sym, subst, IfSome, Spells, file_path, Fits}
use Rattle.circle_lists.proofs.Saved.{saved_holds, saved_rest}
use Rattle.circle_lists.proofs.writing.write_list.Given as given
use Rattle.circle_lists.proofs.writing.write_list.Goals as goal
use Rattle.circle_lists.proofs.writing.write_list.Goals.{In-Some}

-- the path is that of the rank's file
is_file : (g : given.Over) (c : In-Some g) → c.in-Some.path ≡ file_path c.args.dir.now c.args.rank
is_file g c = (subst (λ o. IfSome o (λ path. (path ≡ file_path c.args.dir.now c.args.rank) × Fits c.args.dir.now c.args.rank)) c.in-Some.is
    c.in_ok-path.ensures.some).0

pub returns-in-Ok-clause-written : goal.returns-in-Ok-clause-written
returns-in-Ok-clause-written g c =
    let tree = g.G.Plot.tree in
    let spells = subst (λ b. Spells b c.args.rank c.args.ranks c.args.list.now) (sym c.deref.ensures.value) c.in_ok-bytes.ensures in
    saved_holds c.args.dir.now c.args.rank c.args.ranks c.args.list.now c.in-Some.path c.deref.result.now (tree c.args.ground.now)
    (tree c.save.new.ground) (is_file g (goal.at.returns-in-Ok-clause-written g c).In-Some) spells c.save.ensures.tells c.in-Ok.ensures.told

pub returns-in-Ok-clause-rest : goal.returns-in-Ok-clause-rest
returns-in-Ok-clause-rest g c =
    saved_rest c.in-Some.path c.deref.result.now (file_path c.args.dir.now c.args.rank) (g.G.Plot.tree c.args.ground.now)
    (g.G.Plot.tree c.save.new.ground) (is_file g (goal.at.returns-in-Ok-clause-rest g c).In-Some) c.in-Ok.ensures.told
