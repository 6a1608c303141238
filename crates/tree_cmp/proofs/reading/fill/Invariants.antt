use Rattle.tree_cmp.proofs.Prelude.{◌≡◌, ◌+◌, ◌-◌, ◌<◌, ◌≤◌, length, take, IfSome, get, RoseBy, ShowsWhole, Fills}
use Rattle.tree_cmp.proofs.reading.fill.Given as goal

abbrev pub invariant-loop-done : goal.invariant-loop-done
invariant-loop-done g l =
    let reader = g.R.Tree in
    record {
      inside : l.done ≤ length l.into;
      filled : 0 < l.done → IfSome (reader.tree l.fn.reader) (λ files. Fills (get files l.path) l.at (take l.done l.into));
      same : reader.tree l.reader ≡ reader.tree l.fn.reader;
      count : RoseBy 0 (reader.count l.fn.reader) (reader.count l.reader);
      whole : 0 < l.done → ShowsWhole reader.gives (l.at + l.done) l.path;
    }

abbrev pub decreases-loop-done : goal.decreases-loop-done
decreases-loop-done g l = length l.into - l.done
