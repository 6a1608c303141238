use Rattle.tree_dup.proofs.Prelude.{◌≡◌, ◌++◌, length, into_iter_items, into_iter_len, AreDealt}
use Rattle.tree_dup.proofs.dealing.deal.Given as goal

abbrev pub invariant-loop-file : goal.invariant-loop-file
invariant-loop-file l = record {
  dealt : AreDealt l.yielded l.paths.items l.others.items l.fn.found l.found;
  all : l.yielded ++ into_iter_items l.file-iterator ≡ l.fn.run.items;
  len : into_iter_len l.file-iterator ≡ length (into_iter_items l.file-iterator);
}
