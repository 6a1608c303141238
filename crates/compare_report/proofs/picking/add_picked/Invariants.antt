use Rattle.compare_report.proofs.Prelude.{◌≡◌, ◌++◌, ◌-◌, ◌≤◌, length, take, filter, below_of, picks_but, IsNext, IsPassed}
use Rattle.compare_report.proofs.picking.add_picked.Given as goal

-- what was picked of the entries that were passed, and that the searches are not past the next one
abbrev pub invariant-loop-cursor : goal.invariant-loop-cursor
invariant-loop-cursor l = record {
  of_entries : l.cursor.0 ≡ l.entries;
  inside : l.cursor.1 ≤ length l.entries;
  so_far : l.list ≡ l.fn.list ++ filter (picks_but l.top l.wanted l.but) (take l.cursor.1 l.entries);
  wanted : IsNext IsPassed (λ e. below_of e.path l.top) l.entries l.cursor.1 l.wanted l.at;
  but : IsNext IsPassed (λ e. e.path) l.entries l.cursor.1 l.but l.past;
}

abbrev pub decreases-loop-cursor : goal.decreases-loop-cursor
decreases-loop-cursor l = length l.entries - l.cursor.1
