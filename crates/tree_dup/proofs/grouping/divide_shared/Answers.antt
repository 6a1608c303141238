use Rattle.tree_dup.proofs.Prelude.{List, [], ◌∷◌, length, map, OnOk, subst, Entry, Holds, held, fell_same, File, StandFrom, comparison_faults, AreSifted}
use Rattle.tree_dup.proofs.Counted.{IsFirst, holds_told, tells, same_told, none_falls, keep_on, on_one}
use Rattle.tree_dup.proofs.grouping.divide_shared.Given as given
use Rattle.tree_dup.proofs.grouping.divide_shared.Goals as goal
use Rattle.tree_dup.proofs.grouping.divide_shared.Goals.{After-index_mut}

pub returns-in_err-desk-clause-none_fell : goal.returns-in_err-desk-clause-none_fell
returns-in_err-desk-clause-none_fell g c = fell_same (map g.R.Tree.count c.args.readers.now.items)

-- the first reader goes on, once all have read
first : (g : given.Over) (c : After-index_mut g) →
    IsFirst g.R.Tree.tree c.args.readers.now.items c.read_all.new.readers.items c.index_mut.result.now
first g c = record { some = c.requires.some; same = c.in_ok-kept.ensures.same; at = c.index_mut.ensures.value }

pub divide_all-requires-clause-told : goal.divide_all-requires-clause-told
divide_all-requires-clause-told g c =
    holds_told (first g (goal.at.divide_all-requires-clause-told g c).After-index_mut)
    (λ told (files : List File). Holds (StandFrom told g.R.Tree.gives files) c.in_ok-kept.kept) c.deref.result.now c.args.files.items
    c.deref.ensures.value c.requires.trees c.in_ok-kept.ensures.told

pub returns : goal.returns
returns g c =
    let first = first g (goal.at.returns g c).After-index_mut in
    let kept = c.in_ok-kept.ensures in
    let divided = c.divide_all.ensures in
    record {
      sifted = subst (λ t. OnOk c.divide_all.result ((list : List Entry) → AreSifted t list (c.args.files.items ∷ []) c.args.found.now →
          AreSifted t list [] c.divide_all.new.found)) (tells first) divided.sifted;
      counted = on_one c.divide_all.result _ _
          (keep_on first g.R.Tree.count c.divide_all.new.reader kept.none_fell divided.count (length c.args.found.now.failed)
          (length c.divide_all.new.found.failed) (held comparison_faults c.in_ok-kept.kept) kept.counted) divided.counted;
      causes = divided.causes;
      none_fell = none_falls first g.R.Tree.count c.divide_all.new.reader kept.none_fell divided.count;
      same = same_told first c.divide_all.new.reader divided.same;
    }
