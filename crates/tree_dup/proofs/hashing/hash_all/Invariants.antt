use Rattle.tree_dup.proofs.Prelude.{◌≡◌, ℕ, List, ◌+◌, ◌<◌, ◌≤◌, length, get_or, All, Entry, Holds, held, HaveCauses, File, Alike, AreHashes, IsWhole}
use Rattle.tree_dup.proofs.Prelude.{hash_faults, KeepsUp, AreListed}
use Rattle.tree_dup.proofs.Hashed.{AreHashedFrom}
use Rattle.tree_dup.proofs.hashing.hash_all.Given as goal

abbrev pub invariant-loop-place : goal.invariant-loop-place
invariant-loop-place g l =
    let reader = g.R.Tree in
    let tree = reader.tree l.fn.reader in
    record {
      inside : l.place ≤ length l.files.items;
      front : (j : ℕ) (d : File) → j < l.place → get_or l.files.items j d ≡ get_or l.fn.files.items j d;
      told : Holds (AreHashes tree reader.gives l.fn.files.items) l.kept;
      hashed : (list : List Entry) → AreListed tree list (length list) l.fn.files.items → AreHashedFrom tree list l.place l.files.items l.found;
      alike : All (λ f. f.standing ≡ Alike) l.files.items;
      whole : (j : ℕ) (d : File) → l.place ≤ j → j < length l.files.items → IsWhole reader.gives (get_or l.files.items j d);
      counted : KeepsUp (held hash_faults l.fn.kept) (length l.found.failed + held hash_faults l.kept) (reader.count l.fn.reader) (reader.count l.reader);
      causes : HaveCauses reader.gives l.found;
      same : reader.tree l.reader ≡ tree;
      room : length l.buffer ≡ length l.fn.buffer;
    }

abbrev pub decreases-loop-place : goal.decreases-loop-place
decreases-loop-place g l = l.place
