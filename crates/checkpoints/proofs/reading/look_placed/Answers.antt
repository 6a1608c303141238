use Rattle.checkpoints.proofs.Prelude.{◌≡◌, ◌<◌, ◌∙◌, ap, sym, subst, get_or, map, length, [], Vec, Global, arith, IfSome, get_or-map, length-map, Path}
use Rattle.checkpoints.proofs.Prelude.{IsFirstMisplaced}
use Rattle.checkpoints.proofs.Read.{inside, inside_ranks}
use Rattle.checkpoints.proofs.reading.look_placed.Goals as goal

pub returns-in_default-clause-placed : goal.returns-in_default-clause-placed
returns-in_default-clause-placed c = c.in_ok-rank.ensures.none c.in_default.is

pub line_of-line-requires : goal.line_of-line-requires
line_of-line-requires c =
    let items = λ (list : Vec Path Global). list.items in
    let left = c.args.left.now in
    let rank = c.in-Some.rank in
    let first = subst (λ o. IfSome o (λ at. IsFirstMisplaced c.args.done.now (map items left) at.0 at.1)) c.in-Some.is c.in_ok-rank.ensures.first in
    let within : rank < length left = omega (arith, inside_ranks first, length-map left items) in
    let here : c.deref.result.now ≡ get_or (map items left) rank [] =
    c.deref.ensures.value ∙ ap items c.index-left-rank.is ∙ sym (get_or-map items left rank c.index-left-rank.result [] within) in
    omega (arith, inside first, ap length here)
