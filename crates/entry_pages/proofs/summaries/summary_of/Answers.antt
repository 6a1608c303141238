use Rattle.entry_pages.proofs.Prelude.{◌≡◌, ◌+◌, ◌∙◌, ℕ, arith, ap, subst, List, [], Some, slice_get, is_some, take_all, option_map, with_text, Head, is_of}
use Rattle.entry_pages.proofs.Prelude.{summary_of, unpacked}
use Rattle.outside.specs.declared.trees.Kind.TheVariants as kind
use Rattle.entry_pages.proofs.Counted.{Counts, one_more, counted_more, as_long, bit}
use Rattle.entry_pages.proofs.summaries.summary_of.Goals as goal

pub loop-preserved : goal.loop-preserved
loop-preserved c =
    let hs = c.args.heads.0 in
    let k = c.loop.counter in
    let before = c.loop.invariant in
    let counts : Counts c.loop.sum c.count.new.self (with_text c.next.result.0 (option_map (λ t. t.now) c.next.result.1)) = record {
      items = c.count.ensures.items;
      dirs = c.count.ensures.dirs;
      files = c.count.ensures.files;
      links = c.count.ensures.links;
      others = c.count.ensures.others;
      bytes = c.count.ensures.bytes;
      failed = c.count.ensures.failed;
    } in
    let next : slice_get hs k ≡ Some (with_text c.next.result.0 (option_map (λ t. t.now) c.next.result.1)) =
    subst (λ (l : List Head × ℕ). slice_get l.0 l.1 ≡ Some (with_text c.next.result.0 (option_map (λ t. t.now) c.next.result.1)))
    before.here c.next.ensures.next in
    record {
      here = c.pass.ensures ∙ ap (λ (l : List Head × ℕ). (l.0, l.1 + 1)) before.here;
      counted = λ bytes. let more = one_more hs bytes k (with_text c.next.result.0 (option_map (λ t. t.now) c.next.result.1)) next in
          counted_more _ _ more.0 counts (before.counted bytes) more.1;
      items = omega (arith, before.items, counts.items, bit (is_some c.next.result.0.stat));
      dirs = omega (arith, before.dirs, counts.dirs, bit (is_of kind.Dir c.next.result.0.stat));
      files = omega (arith, before.files, counts.files, bit (is_of kind.File c.next.result.0.stat));
      links = omega (arith, before.links, counts.links, bit (is_of kind.Link c.next.result.0.stat));
      others = omega (arith, before.others, counts.others, bit (is_of kind.Other c.next.result.0.stat));
      small = omega (arith, before.small, c.count.ensures.small);
      few = omega (arith, before.few, c.count.ensures.few);
    }

pub returns : goal.returns
returns c bytes =
    let entries = unpacked [] c.args.heads.0 bytes in
    let all = take_all c.loop.counter entries (omega (arith, as_long [] c.args.heads.0 bytes, c.requires.all, c.loop-test.false)) in
    c.loop.invariant.counted bytes ∙ ap summary_of all
