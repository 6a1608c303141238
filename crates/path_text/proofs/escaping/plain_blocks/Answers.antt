use Rattle.path_text.proofs.Prelude.{◌≡◌, ◌+◌, ◌-◌, arith, ap, ◌∙◌, sym, take, drop, list_any, is_escaped}
use Rattle.path_text.proofs.Blocks.{next_block}
use Rattle.path_text.proofs.escaping.plain_blocks.Goals as goal

pub loop-at-preserved : goal.loop-at-preserved
loop-at-preserved c =
    let bytes = c.args.bytes.now in
    let at = c.loop-at.at in
    let block : at + 16 - at ≡ 16 = omega arith in
    record {
      within = omega arith;
      plain = next_block bytes at 16 c.loop-at.invariant.plain (omega arith)
          (ap (λ n. list_any is_escaped (take n (drop at bytes))) (sym block) ∙ sym c.has_escaped.ensures ∙ c.if-has_escaped.false);
    }
