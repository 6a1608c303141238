use Rattle.tool_text.proofs.Prelude.{◌≡◌, ◌∙◌, ℕ, ◌+◌, ◌-◌, ◌/◌, ◌++◌, List, [], arith, ap₂, subst, IfOk, IfOk-at_ok, lines_between}
use Rattle.tool_text.proofs.Between.{between_both}
use Rattle.tool_text.proofs.halving.+halves.Goals as goal

pub returns : goal.returns
returns g t c =
    let list = c.args.list.now in
    let from = c.args.from in
    let to = c.args.to in
    let middle = from + (to - from) / 2 in
    let front = IfOk-at_ok (λ (d : List ℕ × List ℕ). d ≡ (lines_between from middle list, [])) {r = c.join-front.result.0}
    c.in_ok-front.was c.join-front.ensures.first in
    let back = IfOk-at_ok (λ (d : List ℕ × List ℕ). d ≡ (lines_between middle to list, [])) {r = c.join-front.result.1}
    c.in_ok-back.was c.join-front.ensures.second in
    let both = between_both from middle to list (omega (arith, c.requires.order)) (omega (arith, c.requires.order)) c.requires.inside in
    let text = ap₂ (λ (a b : List ℕ × List ℕ). a.0 ++ b.0) front back ∙ both in
    subst (λ (lines : List ℕ). IfOk c.append.result (λ draft. draft ≡ (lines, []))) text c.append.ensures
