use Rattle.tree_dup.proofs.Prelude.{◌≡◌, ◌-◌, ◌<◌, ◌≤◌, length, RoseBy, ShowsWhole}
use Rattle.tree_dup.proofs.Fed.{Fed}
use Rattle.tree_dup.proofs.hashing.read_hash.Given as goal

abbrev pub invariant-loop-at : goal.invariant-loop-at
invariant-loop-at g l =
    let reader = g.R.Tree in
    record {
      inside : l.at ≤ l.size;
      fed : Fed (reader.tree l.fn.reader) l.path l.size l.at l.hasher;
      same : reader.tree l.reader ≡ reader.tree l.fn.reader;
      count : RoseBy 0 (reader.count l.fn.reader) (reader.count l.reader);
      whole : 0 < l.at → ShowsWhole reader.gives l.at l.path;
      room : length l.buffer ≡ length l.fn.buffer;
    }

abbrev pub decreases-loop-at : goal.decreases-loop-at
decreases-loop-at g l = l.size - l.at
