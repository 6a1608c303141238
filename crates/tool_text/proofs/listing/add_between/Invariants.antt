use Rattle.tool_text.proofs.Prelude.{◌≡◌, ◌++◌, lines_between}
use Rattle.tool_text.proofs.listing.add_between.Given as goal

abbrev pub invariant-loop : goal.invariant-loop
invariant-loop l = record {
  list : l.cursor.0 ≡ l.list;
  passed : l.cursor.1 ≡ l.counter;
  added : l.draft.1 ≡ l.fn.draft.1 ++ lines_between l.from l.counter l.list;
  stands : l.draft.0 ≡ l.fn.draft.0;
}
