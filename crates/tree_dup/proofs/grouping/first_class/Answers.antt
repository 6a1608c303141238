use Rattle.tree_dup.proofs.Prelude.{arith, ◌≡◌, ◌+◌, ◌++◌, ◌<◌, ◌∷◌, [], length, refl, sym, ap, subst, All, All-push, IsPermutation-refl, length_permutation}
use Rattle.tree_dup.proofs.Prelude.{HaveCauses, AreWhole, Told, Grouping, faults_of, KeepsUp, HasContent, IsRun, comparison_faults, kept_rose}
use Rattle.tree_dup.proofs.Classes.{IsClass, left_alike, left_content, left_fewer, left_whole, class_counted, class_causes, class_whole}
use Rattle.tree_dup.proofs.Kept.{class_left_out, class_kept}
use Rattle.tree_dup.proofs.Ran.{run_of}
use Rattle.tree_dup.proofs.grouping.first_class.Given as given
use Rattle.tree_dup.proofs.grouping.first_class.Goals as goal
use Rattle.tree_dup.proofs.grouping.first_class.Goals.{In_ok-paths}

pub compare_first-digest-requires-clause-sizes : goal.compare_first-digest-requires-clause-sizes
compare_first-digest-requires-clause-sizes g c = λ k d l.
    (run_of c.args.run.items 0 c.index-first.result.now c.requires.some c.index-first.ensures c.requires.run k d l).of_size

-- the files of the run have the size and the hash of the first one
all_alike : (g : given.Over) (c : In_ok-paths g) → All (HasContent c.index-first.result.now.size c.index-first.result.now.hash) c.args.run.items
all_alike g c = run_of c.args.run.items 0 c.index-first.result.now c.requires.some c.index-first.ensures c.requires.run

-- the run was compared and dealt out
class : (g : given.Over) (c : In_ok-paths g) → IsClass (g.R.Tree.tree c.args.reader.now) c.index-first.result.now.size c.index-first.result.now.hash
    c.compare_first-digest.result c.args.run.items c.compare_first-digest.new.run.items c.in_ok-paths.paths.items c.in_ok-paths.left.items
    c.args.found.now c.deal.new.found
class g c = record {
  all = all_alike g c;
  alike = c.requires.alike;
  same = c.compare_first-digest.ensures.files;
  empty = c.compare_first-digest.ensures.empty;
  settled = c.compare_first-digest.ensures.settled;
  dealt = c.in_ok-paths.ensures;
}

-- what is left is a run, and shorter
left_run : (g : given.Over) (c : In_ok-paths g) → IsRun c.in_ok-paths.left.items
left_run g c = record {
  size = c.index-first.result.now.size;
  hash = c.index-first.result.now.hash;
  all = left_content _ _ _ _ _ _ _ _ c.compare_first-digest.ensures.files (all_alike g c) c.in_ok-paths.ensures;
}

left_shorter : (g : given.Over) (c : In_ok-paths g) → length c.in_ok-paths.left.items < length c.args.run.items
left_shorter g c = left_fewer _ _ _ _ _ _ c.index-first.result.now c.compare_first-digest.ensures.files c.requires.some
    (c.compare_first-digest.ensures.front c.index-first.result.now) c.in_ok-paths.ensures

pub returns-then-len-lt2 : goal.returns-then-len-lt2
returns-then-len-lt2 g c =
    let e = c.compare_first-digest.ensures in
    let dealt = c.in_ok-paths.ensures in
    let at = (goal.at.returns-then-len-lt2 g c).In_ok-paths in
    record {
      sifted = λ list others s. class_left_out _ list _ _ _ _ _ _ _ _ _ (class g at) others s (IsPermutation-refl c.in_ok-paths.paths.items) (omega arith);
      run = left_run g at;
      alike = left_alike _ _ _ _ _ dealt;
      whole = left_whole g.R.Tree.gives _ _ _ _ _ _ e.files c.requires.whole dealt;
      fewer = left_shorter g at;
      counted = class_counted _ _ _ _ _ _ _ _ dealt e.counted;
      causes = class_causes g.R.Tree.gives _ _ _ _ _ e.shows dealt;
      same = e.same;
      count = kept_rose _ _ _ _ e.counted;
      room = e.room;
    }

pub returns : goal.returns
returns g c =
    let at = (goal.at.returns g c).In_ok-paths in
    let e = c.compare_first-digest.ensures in
    let dealt = c.in_ok-paths.ensures in
    let first = c.index-first.result.now in
    let found' = c.deal.new.found in
    let sorted = c.sort_unstable.new.self.items in
    let s = c.sort_unstable.ensures in
    let group : Told = record { size = first.size; digest = c.compare_first-digest.result; paths = sorted } in
    let added : c.add.new.self ≡ record found' { groups = found'.groups ++ group ∷ [] } = c.in_ok-add.ensures.ok in
    record {
      sifted = λ list others k. class_kept _ list _ _ _ _ _ _ _ _ _ (class g at) others k group c.add.new.self added
          s.permutation s.sorted (omega (arith, length_permutation c.in_ok-paths.paths.items sorted s.permutation)) refl refl;
      run = left_run g at;
      alike = left_alike _ _ _ _ _ dealt;
      whole = left_whole g.R.Tree.gives _ _ _ _ _ _ e.files c.requires.whole dealt;
      fewer = left_shorter g at;
      counted = subst (λ n. KeepsUp (length c.args.found.now.failed + faults_of comparison_faults c.args.compared) n (g.R.Tree.count c.args.reader.now)
          (g.R.Tree.count c.compare_first-digest.new.reader))
          (sym (ap (λ (f : Grouping). length f.failed) added)) (class_counted _ _ _ _ _ _ _ _ dealt e.counted);
      causes = λ h.
          let k = class_causes g.R.Tree.gives _ _ _ _ _ e.shows dealt h in
          subst (HaveCauses g.R.Tree.gives) (sym added) (record {
            failed = k.failed;
            changed = k.changed;
            whole = All-push (AreWhole g.R.Tree.gives) found'.groups group k.whole
                (λ some. class_whole g.R.Tree.gives first.size _ _ _ sorted _ _ _ e.files
                (λ j d l. (all_alike g at j d l).of_size) c.requires.whole dealt s.permutation some);
          });
      same = e.same;
      count = kept_rose _ _ _ _ e.counted;
      room = e.room;
    }
