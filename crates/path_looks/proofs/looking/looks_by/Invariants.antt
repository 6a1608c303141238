use Rattle.path_looks.proofs.Prelude.{◌≡◌, All, RoseBy, paths_of, fault_of, IsSeen}
use Rattle.std.proofs.Common.{sum_by}
use Rattle.path_looks.proofs.looking.looks_by.Given as goal

-- the looks at the paths that were passed
abbrev pub invariant-loop-path : goal.invariant-loop-path
invariant-loop-path g l = record {
  paths : paths_of l.looks.items ≡ l.yielded;
  told : All (λ look. IsSeen (g.T.Tree.tree l.fn.reader) look.path look.seen) l.looks.items;
  same : g.T.Tree.tree l.reader ≡ g.T.Tree.tree l.fn.reader;
  counted : RoseBy (sum_by fault_of l.looks.items) (g.T.Tree.count l.fn.reader) (g.T.Tree.count l.reader);
}
