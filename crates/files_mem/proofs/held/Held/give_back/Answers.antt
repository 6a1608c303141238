use Rattle.files_mem.proofs.Prelude.{◌≡◌, ◌≤◌, ◌+◌, sym, ap, arith, length, subst, true, list_any, arc_value, vec_len, vec_capacity, same_tops}
use Rattle.files_mem.proofs.Laying.{given_back, one_less}
use Rattle.files_mem.proofs.held.Held.give_back.Goals as goal

pub invariant_of-self : goal.invariant_of-self
invariant_of-self c =
    let room : length c.self.inside.lent + vec_len c.self.inside.cut + vec_len c.self.inside.back ≤ vec_capacity c.self.inside.back = c.self.invariant in
    let less = one_less c.args.tops c.self.inside.lent
    (subst (λ out. list_any (λ one. same_tops one c.args.tops) out ≡ true) (sym (ap (λ h. h.out) c.self.view_is)) c.requires) in
    omega (arith, room, c.put_back.ensures.len, c.put_back.ensures.capacity, less, ap length c.end.ensures)

pub returns : goal.returns
returns c = given_back c.self.inside.back.items c.put_back.new.places.items (record { tops = c.args.tops; files = c.args.store })
    (arc_value c.self.inside.store) c.self.inside.lent c.end.new.self c.self.inside.cut.items c.args.self.now c.put_back.ensures.items c.self.view_is
    c.end.ensures
