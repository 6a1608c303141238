use Rattle.test_tree.proofs.Prelude.{◌∙◌, ap, subst, sym, arith, Err, IsTrue, is_name}
use Rattle.test_tree.proofs.Numbered.{name_fine}
use Rattle.test_tree.proofs.Placed.{made_of, fits_made}
use Rattle.test_tree.proofs.making.child.Goals as goal

pub join-requires : goal.join-requires
join-requires c = subst (λ name. IsTrue (is_name name)) (sym (c.deref.ensures ∙ c.in_ok-name.ensures)) (name_fine c.args.k (omega arith))

pub returns-in-Ok : goal.returns-in-Ok
returns-in-Ok c = c.in-Ok.ensures.ok ∙ made_of c.args.k c.args.place.now c.deref.result.now c.requires.place (c.deref.ensures ∙ c.in_ok-name.ensures)

pub unreachable-requires : goal.unreachable-requires
unreachable-requires c =
    let fits = fits_made c.args.k c.args.place.now c.deref.result.now c.requires.place (c.deref.ensures ∙ c.in_ok-name.ensures) c.requires.limit in
    absurd (omega (arith, fits, c.in-Err-TooLong.ensures.too_long (ap Err c.in-Err-TooLong.field-0-is)))
