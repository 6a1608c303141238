use Rattle.tree_dup.proofs.Prelude.{arith, ◌≡◌, ◌==◌, Bool, sym, ap, ◌∙◌, if◌then◌else◌, min, ◌+◌, common_steps, is_sized, counted}
use Rattle.tree_dup.proofs.Entered.{no_size, one_size}
use Rattle.tree_dup.proofs.sizes.count_size.Goals as goal

pub returns-in_default : goal.returns-in_default
returns-in_default c = λ size.
    ap (λ (b : Bool). if b then min (counted c.args.counts.now size + 1) 255 else counted c.args.counts.now size)
    (sym (no_size c.args.entry.now size (sym c.file_size.ensures ∙ c.in_default.is)))

pub returns : goal.returns
returns c = λ size.
    let one : is_sized size c.args.entry.now ≡ (c.in-Some.size == size) = one_size c.args.entry.now size c.in-Some.size (sym c.file_size.ensures
    ∙ c.in-Some.is) in
    grind (arith, common_steps, one)
