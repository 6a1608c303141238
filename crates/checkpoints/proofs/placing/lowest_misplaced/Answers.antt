use Rattle.checkpoints.proofs.Prelude.{◌≡◌, ◌+◌, ◌||◌, ◌∙◌, ap, sym, subst, arith, List, ℕ, Option, Bool, option_copied, length-map, take_all, is_misplaced}
use Rattle.checkpoints.proofs.Prelude.{ArePassed, Numbered, paths_in, top_with, lowest_with, IsLowest, numbered}
use Rattle.checkpoints.proofs.Paired.{pair}
use Rattle.checkpoints.proofs.Numbers.{at_map}
use Rattle.checkpoints.proofs.Looked.{State, Stands, IsLook, goes_on, misplaced_is}
use Rattle.checkpoints.proofs.placing.lowest_misplaced.Goals as goal
use Rattle.checkpoints.proofs.placing.lowest_misplaced.Goals.{then-clash, else-clash}

pub pass_before-requires-clause-passed : goal.pass_before-requires-clause-passed
pass_before-requires-clause-passed c =
    let here = at_map pair c.args.lefts.now c.loop-at.at c.index-lefts-at.result c.loop-at-test.true c.index-lefts-at.is in
    subst (λ (l : ℕ × List ℕ). ArePassed c.loop-at.ahead.0 c.loop-at.closed l.1) (sym here.is)
    (c.loop-at.invariant.passed c.loop-at.at (pair c.index-lefts-at.result) (omega arith) here.inside)

pub loop-at-preserved : goal.loop-at-preserved
loop-at-preserved c =
    let done = c.args.done.now in
    let lefts = numbered c.args.lefts.now in
    let l = pair c.index-lefts-at.result in
    let ahead = c.pass_before.new.ahead in
    let closed = c.pass_before.new.closed in
    let s : State = record {
      at = c.loop-at.at;
      ahead = c.loop-at.ahead;
      closed = c.loop-at.closed;
      above = option_copied c.loop-at.above;
      lowest = c.loop-at.lowest;
    } in
    let look : IsLook lefts s l ahead closed = record {
      sorted = c.requires.sorted;
      here = at_map pair c.args.lefts.now s.at c.index-lefts-at.result c.loop-at-test.true c.index-lefts-at.is;
      same = c.in_ok-pass_before.ensures.all;
      passed = c.in_ok-pass_before.ensures.passed;
    } in
    let either : c.if-clash.lowest_with ≡ (c.is_clash-clash.result || c.is_again-again.result) =
    elim c.if-clash.branch [
      | then-clash w ↦ w.lowest_with-is ∙ w.if-clash.true ∙ ap (λ (b : Bool). b || c.is_again-again.result) (sym w.if-clash.true)
      | else-clash w ↦ w.lowest_with-is ∙ ap (λ (b : Bool). b || c.is_again-again.result) (sym w.if-clash.false)
    ] in
    let told = either ∙ (λ i. c.is_clash-clash.ensures.clash i || c.is_again-again.ensures i)
    ∙ misplaced_is done lefts s l ahead closed c.loop-at.invariant look c.is_clash-clash.ensures.some in
    let low = c.lowest_with-lowest.ensures ∙ ap (λ (b : Bool). lowest_with b s.lowest l.0) told in
    let state : Option (List ℕ) → Option ℕ → State = λ t n. record { at = s.at + 1; ahead = ahead; closed = closed; above = t; lowest = n } in
    subst (λ (t : Option (List ℕ)). Stands done lefts (state t c.lowest_with-lowest.result)) (sym c.top_with-above.ensures)
    (subst (λ (n : Option ℕ). Stands done lefts (state (top_with s.above l.1) n)) (sym low)
    (goes_on done lefts s l ahead closed c.loop-at.invariant look))

pub returns : goal.returns
returns c =
    let lefts = numbered c.args.lefts.now in
    let all = take_all c.loop-at.at lefts (omega (arith, c.loop-at-test.false, length-map c.args.lefts.now pair)) in
    subst (λ (ls : Numbered). IsLowest (is_misplaced c.args.done.now (paths_in lefts)) ls c.loop-at.lowest) all c.loop-at.invariant.low
