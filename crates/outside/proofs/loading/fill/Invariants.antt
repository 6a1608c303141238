use Rattle.outside.proofs.Prelude.{◌≡◌, ◌-◌, ◌≤◌, length, take, IfSome, get, RoseBy, content, ReadFront}
use Rattle.outside.proofs.loading.fill.Given as goal

abbrev pub invariant-loop-at : goal.invariant-loop-at
invariant-loop-at g l =
    let reader = g.R.Tree in
    record {
      inside : l.at ≤ length l.bytes;
      loaded : IfSome (reader.tree l.fn.reader) (λ files. take l.at l.bytes ≡ take l.at (content (get files l.path)));
      same : reader.tree l.reader ≡ reader.tree l.fn.reader;
      count : RoseBy 0 (reader.count l.fn.reader) (reader.count l.reader);
      front : ReadFront reader.gives l.path l.at l.fn.reader l.reader;
    }

abbrev pub decreases-loop-at : goal.decreases-loop-at
decreases-loop-at g l = length l.bytes - l.at
