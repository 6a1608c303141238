use Rattle.tree_dup.proofs.Prelude.{List, length, map, OnOk, subst, Entry, Holds, held, fell_same, File, AreHashes, hash_faults, AreListed, AreHashed}
use Rattle.tree_dup.proofs.Counted.{IsFirst, holds_told, tells, same_told, none_falls, rise_on, on_one}
use Rattle.tree_dup.proofs.grouping.hash_shared.Given as given
use Rattle.tree_dup.proofs.grouping.hash_shared.Goals as goal
use Rattle.tree_dup.proofs.grouping.hash_shared.Goals.{After-index_mut}

-- the first reader goes on, once all have read
first : (g : given.Over) (c : After-index_mut g) →
    IsFirst g.R.Tree.tree c.args.readers.now.items c.read_all.new.readers.items c.index_mut.result.now
first g c = record { some = c.requires.some; same = c.in_ok-kept.ensures.same; at = c.index_mut.ensures.value }

pub returns : goal.returns
returns g c =
    let first = first g (goal.at.returns g c).After-index_mut in
    let y = c.hash_all.new.reader in
    let hashed = c.hash_all.ensures in
    record {
      hashed = subst (λ t. OnOk c.hash_all.result ((list : List Entry) → AreListed t list (length list) c.args.files.now.items →
          AreHashed t list c.hash_all.new.files.items c.hash_all.new.found)) (tells first) hashed.hashed;
      alike = hashed.alike;
      whole = hashed.whole;
      counted = on_one c.hash_all.result _ _ (rise_on first g.R.Tree.count y c.in_ok-kept.ensures.none_fell hashed.count
          (length c.hash_all.new.found.failed) (held hash_faults c.in_ok-kept.kept) c.in_ok-kept.ensures.counted) hashed.counted;
      causes = hashed.causes;
      none_fell = none_falls first g.R.Tree.count y c.in_ok-kept.ensures.none_fell hashed.count;
      same = same_told first y hashed.same;
    }

pub hash_all-requires-clause-told : goal.hash_all-requires-clause-told
hash_all-requires-clause-told g c =
    holds_told (first g (goal.at.hash_all-requires-clause-told g c).After-index_mut)
    (λ told (files : List File). Holds (AreHashes told g.R.Tree.gives files) c.in_ok-kept.kept)
    c.deref.result.now c.args.files.now.items c.deref.ensures.value c.requires.trees c.in_ok-kept.ensures.told

pub returns-in_err-buffer-clause-none_fell : goal.returns-in_err-buffer-clause-none_fell
returns-in_err-buffer-clause-none_fell g c = fell_same (map g.R.Tree.count c.args.readers.now.items)
