use Rattle.tree_dup.proofs.Prelude.{rules, arith, ◌≡◌, ◌+◌, ◌<◌, false, length, get_or, set, ap, ◌∙◌, get_or_default, File, is_alike, is_other}
use Rattle.tree_dup.proofs.Gone.{went_set}
use Rattle.tree_dup.proofs.Stood.{inside_still, half_told_none, half_told_skip, half_told_more, half_told_all, first_set, length_set}
use Rattle.tree_dup.proofs.comparing.compare_piece.Goals as goal

pub follow-requires-clause-inside : goal.follow-requires-clause-inside
follow-requires-clause-inside g c =
    inside_still (c.args.at + c.args.room) c.args.files.now c.loop-k.files c.loop-k.invariant.went.files c.requires.inside c.loop-k.k c.index-files-k.result
    (search rules)

pub loop-k-init : goal.loop-k-init
loop-k-init g c =
    let e = c.next_lead-lead.ensures in
    record {
      went = e.sought.went;
      told = half_told_none (g.R.Tree.tree c.args.reader.now) c.args.at c.args.room c.next_lead-lead.new.into c.next_lead-lead.result c.args.files.now
          c.next_lead-lead.new.files e.sought.told e.filled;
      front = e.sought.front;
      first = e.before;
    }

pub loop-k-preserved : goal.loop-k-preserved
loop-k-preserved g c =
    let i = c.loop-k.invariant in
    let e = c.follow.ensures in
    let files = c.loop-k.files in
    let k = c.loop-k.k in
    let f = c.follow.new.file in
    let d = c.index-files-k.result in
    let inside : k < length files = search rules in
    let long : length (set files k f) ≡ length files = length_set files k f inside in
    let still_first = λ (x : File) (z : k ≡ 0).
    let at_first = get_or_default files k d x inside ∙ ap (λ j. get_or files j x) z in
    e.moved.idle (ap is_alike at_first ∙ i.first x (omega (arith, z, c.if-k-lead.false)) (omega (arith, z, inside))) ∙ at_first in
    record {
      went = went_set g.R.Tree.tree g.R.Tree.count g.R.Tree.gives
          c.args.reader.now c.loop-k.reader c.follow.new.reader c.args.files.now files k f d inside i.went e.moved;
      told = half_told_more (g.R.Tree.tree c.args.reader.now) (g.R.Tree.tree c.loop-k.reader) c.args.at c.args.room c.next_lead-lead.new.into
          c.next_lead-lead.result k c.args.files.now files f d i.went.same c.if-k-lead.false inside i.went.files e.told i.told;
      front = λ x l o. first_set files k f inside (λ (y : File). is_other y ≡ false) x (λ z. ap is_other (still_first x z)
          ∙ i.front x l o) (λ later. i.front x l o);
      first = λ x l m. first_set files k f inside (λ (y : File). is_alike y ≡ false) x
          (λ z. ap is_alike (still_first x z) ∙ i.first x l (omega (arith, long, m))) (λ later. i.first x l (omega (arith, long, m)));
    }

pub loop-k-preserved-then-k-lead : goal.loop-k-preserved-then-k-lead
loop-k-preserved-then-k-lead g c =
    let i = c.loop-k.invariant in
    record {
      went = i.went;
      told = half_told_skip (g.R.Tree.tree c.args.reader.now) c.args.at c.args.room c.next_lead-lead.new.into c.next_lead-lead.result c.loop-k.k
          c.args.files.now c.loop-k.files c.if-k-lead.true i.told;
      front = i.front;
      first = i.first;
    }

pub returns : goal.returns
returns g c =
    let i = c.loop-k.invariant in
    record {
      went = i.went;
      told = half_told_all (g.R.Tree.tree c.args.reader.now) c.args.at c.args.room c.next_lead-lead.new.into c.next_lead-lead.result c.loop-k.k
          c.args.files.now c.loop-k.files c.args.hasher.now c.update.new.self (omega arith) (search rules) c.update.ensures i.told;
      front = i.front;
    }
