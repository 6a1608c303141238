use Rattle.tool_text.proofs.Prelude.{◌∙◌, ◌+◌, ◌++◌, append-nil, ap, sym, arith, rules}
use Rattle.tool_text.proofs.Between.{between_none}
use Rattle.tool_text.proofs.listing.add_between.Goals as goal

pub loop-init : goal.loop-init
loop-init c =
    let none = between_none c.args.from c.args.list.now (omega (arith, c.requires.order, c.requires.inside)) in
    record {
      list = ap (λ x. x.0) c.in_ok-cursor.ensures;
      passed = ap (λ x. x.1) c.in_ok-cursor.ensures;
      added = sym (ap (λ xs. c.args.draft.now.1 ++ xs) none ∙ append-nil c.args.draft.now.1);
      stands = search rules;
    }
