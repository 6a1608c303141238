use Rattle.files_mem.proofs.Prelude.{sym, subst, IsRejoined}
use Rattle.files_mem.proofs.Spanning.{told_all}
use Rattle.files_mem.proofs.grounds.MemGroundWide.give_back_spans.Goals as goal

pub returns-clause-tree : goal.returns-clause-tree
returns-clause-tree c =
    subst (λ bytes. IsRejoined c.args.path.now bytes c.args.self.now.files c.rejoin.new.self.files) (sym (told_all c.args.spans.items c.requires.tells))
    c.rejoin.ensures.tree
