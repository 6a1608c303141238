use Rattle.entry_pages.proofs.Prelude.{◌≡◌, ◌+◌, ◌∙◌, ℕ, arith, ap, subst, List, Some, slice_get, sum_by, take_all, option_map, with_text, Head, path_len}
use Rattle.entry_pages.proofs.Counted.{bytes_more}
use Rattle.entry_pages.proofs.summaries.path_bytes.Goals as goal

pub loop-preserved : goal.loop-preserved
loop-preserved c =
    let hs = c.args.heads.0 in
    let k = c.loop.counter in
    let h = (with_text c.next.result.0 (option_map (λ t. t.now) c.next.result.1)) in
    let before = c.loop.invariant in
    let next : slice_get hs k ≡ Some h = subst (λ (l : List Head × ℕ). slice_get l.0 l.1 ≡ Some h) before.here c.next.ensures.next in
    record {
      here = c.pass.ensures ∙ ap (λ (l : List Head × ℕ). (l.0, l.1 + 1)) before.here;
      counted = omega (arith, before.counted, bytes_more hs k h next, c.from.ensures, c.from-in-loop.ensures);
      small = omega (arith, before.small);
    }

pub returns : goal.returns
returns c =
    let hs = c.args.heads.0 in
    c.loop.invariant.counted ∙ ap (sum_by path_len) (take_all c.loop.counter hs (omega (arith, c.requires.all, c.loop-test.false)))
