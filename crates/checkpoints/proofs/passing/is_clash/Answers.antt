use Rattle.checkpoints.proofs.Prelude.{◌||◌, ℕ, List, Option, ◌∙◌, ap, sym, Bool, covered, starts_in, some_bytes}
use Rattle.checkpoints.proofs.Clashing.{clash_is}
use Rattle.checkpoints.proofs.passing.is_clash.Goals as goal

pub returns-then-covers-clause-clash : goal.returns-then-covers-clause-clash
returns-then-covers-clause-clash c =
    let path = c.args.path.now in
    let ahead = c.args.ahead.now in
    let top = c.covers.ensures ∙ ap (λ (t : Option (List ℕ)). covered t path) c.as_ref.ensures.value in
    c.if-covers.true ∙ ap (λ (b : Bool). b || starts_in path ahead.1) (sym c.if-covers.true ∙ top)
    ∙ clash_is path ahead c.args.closed.now (some_bytes path c.text-text.ensures.valid) c.requires.ascend c.requires.passed c.requires.next

pub returns-else-covers-clause-clash : goal.returns-else-covers-clause-clash
returns-else-covers-clause-clash c =
    let path = c.args.path.now in
    let ahead = c.args.ahead.now in
    let top = c.covers.ensures ∙ ap (λ (t : Option (List ℕ)). covered t path) c.as_ref.ensures.value in
    c.starts_in.ensures ∙ ap (λ (b : Bool). b || starts_in path ahead.1) (sym c.if-covers.false ∙ top)
    ∙ clash_is path ahead c.args.closed.now (some_bytes path c.text-text.ensures.valid) c.requires.ascend c.requires.passed c.requires.next
