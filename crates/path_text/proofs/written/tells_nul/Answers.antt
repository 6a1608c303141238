use Rattle.path_text.proofs.Prelude.{arith, ap, ◌∙◌, sym, begins_nul}
use Rattle.path_text.proofs.Words.{rest_of}
use Rattle.path_text.proofs.Told.{nul_behind}
use Rattle.path_text.proofs.written.tells_nul.Goals as goal

pub loop-at-preserved : goal.loop-at-preserved
loop-at-preserved c =
    let name = c.args.name.now in
    let at = c.loop-at.at in
    c.loop-at.invariant ∙ nul_behind name at (omega arith) (ap begins_nul (sym (rest_of name at)) ∙ sym c.begins_nul.ensures ∙ c.if-begins_nul.false)
