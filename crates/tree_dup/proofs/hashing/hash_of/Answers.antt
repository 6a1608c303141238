use Rattle.tree_dup.proofs.Hashed.{faults_of_hash}
use Rattle.tree_dup.proofs.hashing.hash_of.Goals as goal

pub returns : goal.returns
returns g c =
    let e = c.read_hash.ensures in
    record {
      hash = record { told = e.told; unchanged = e.changed; empty = e.empty; shows = e.shows; whole = e.whole };
      same = e.same;
      cause = faults_of_hash c.read_hash.result _ _ e.count e.cause;
    }
