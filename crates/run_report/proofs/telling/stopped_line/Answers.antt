use Rattle.run_report.proofs.Prelude.{◌≡◌, ◌++◌, ◌∷◌, [], codes, ap, sym, subst, ◌∙◌, IfOk, decimal, append_assoc}
use Rattle.run_report.proofs.telling.stopped_line.Goals as goal

pub returns : goal.returns
returns c =
    let apart = append_assoc (decimal c.args.handled) (codes " left ") (decimal c.args.left) in
    subst (λ line. IfOk c.text_of.result (λ text. text ≡ line ++ 10 ∷ []))
    (c.deref.ensures ∙ c.in_ok-line.ensures.ok ∙ ap (λ rest. codes "stopped handled " ++ rest) (sym apart)) c.text_of.ensures
