use Rattle.tree_dup.proofs.Prelude.{rules, length, map, ap, sym, subst, ◌∙◌, All-permutation, answers_always, length_permutation, kept_on, fell_fell, fell_same}
use Rattle.tree_dup.proofs.Prelude.{first_told, RoseTogether, File, IsWhole, content_cmp}
use Rattle.std.specs.Ordering.{is_lt}
use Rattle.tree_dup.proofs.Classes.{alike_moved}
use Rattle.tree_dup.proofs.Grouped.{grouped, causes_moved}
use Rattle.tree_dup.proofs.Ran.{content_ranks}
use Rattle.tree_dup.proofs.Sifted.{sifted_first, sifted_as}
use Rattle.tree_dup.proofs.grouping.find_groups.Goals as goal

pub returns-in_err-files-clause-none_fell : goal.returns-in_err-files-clause-none_fell
returns-in_err-files-clause-none_fell g c = fell_same (map g.R.Tree.count c.args.readers.now.items)

pub returns-in_err-divide_shared-clause-none_fell : goal.returns-in_err-divide_shared-clause-none_fell
returns-in_err-divide_shared-clause-none_fell g c =
    fell_fell (map g.R.Tree.count c.args.readers.now.items) (map g.R.Tree.count c.hash_shared.new.readers.items)
    (map g.R.Tree.count c.divide_shared.new.readers.items) c.in_ok-hash_shared.ensures.none_fell c.in_err-divide_shared.ensures.none_fell

pub divide_shared-requires-clause-sorted : goal.divide_shared-requires-clause-sorted
divide_shared-requires-clause-sorted g c = λ κs within.
    c.sort_unstable_by.ensures.sorted (λ (x y : File). is_lt (content_cmp x y)) content_ranks
    (answers_always _ _ _ (λ f a r f' k. search rules))

pub divide_shared-requires-clause-alike : goal.divide_shared-requires-clause-alike
divide_shared-requires-clause-alike g c = λ κs within.
    alike_moved c.hash_shared.new.files.items c.sort_unstable_by.new.self.items c.sort_unstable_by.ensures.permutation c.in_ok-hash_shared.ensures.alike

pub divide_shared-requires-clause-whole : goal.divide_shared-requires-clause-whole
divide_shared-requires-clause-whole g c = λ κs within.
    All-permutation (IsWhole g.R.Tree.gives) c.hash_shared.new.files.items c.sort_unstable_by.new.self.items c.sort_unstable_by.ensures.permutation
    c.in_ok-hash_shared.ensures.whole

pub returns : goal.returns
returns g c =
    let h = c.in_ok-hash_shared.ensures in
    let d = c.in_ok-divide_shared.ensures in
    let s = c.sort.ensures in
    let list = c.args.list.now in
    let told = first_told (map g.R.Tree.tree c.args.readers.now.items) in
    let counts = map g.R.Tree.count in
    record {
      groups = grouped told list c.divide_shared.new.found c.sort.new.self c.requires.ascend
          (sifted_as told _ list _ _ _ _ (ap first_told h.same) (d.sifted list)
          (sifted_first told list c.hash_shared.new.files.items c.sort_unstable_by.new.self.items c.hash_shared.new.found
          c.sort_unstable_by.ensures.permutation (h.hashed list (c.in_ok-files.ensures.listed told c.requires.told))))
          s.groups s.failed s.changed s.by_first s.by_failed s.by_changed;
      counted = subst (λ n. RoseTogether n (counts c.args.readers.now.items) (counts c.divide_shared.new.readers.items))
          (sym (length_permutation c.divide_shared.new.found.failed c.sort.new.self.failed s.failed))
          (kept_on (length c.divide_shared.new.found.failed) (counts c.args.readers.now.items) (counts c.hash_shared.new.readers.items)
          (counts c.divide_shared.new.readers.items) (length c.hash_shared.new.found.failed) h.counted d.counted d.none_fell);
      causes = causes_moved g.R.Tree.gives c.divide_shared.new.found c.sort.new.self s.groups s.failed s.changed (d.causes h.causes);
      none_fell = fell_fell (counts c.args.readers.now.items) (counts c.hash_shared.new.readers.items) (counts c.divide_shared.new.readers.items)
          h.none_fell d.none_fell;
      same = d.same ∙ h.same;
    }
