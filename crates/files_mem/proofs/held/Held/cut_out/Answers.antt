use Rattle.files_mem.proofs.Prelude.{◌≤◌, ◌+◌, arith, length, vec_len, vec_capacity}
use Rattle.files_mem.proofs.Cuts.{cut_room}
use Rattle.files_mem.proofs.held.Held.cut_out.Goals as goal

pub invariant_of-self-2 : goal.invariant_of-self-2
invariant_of-self-2 c =
    let more = cut_room c.lend.result c.self.inside.cut.items c.lend.new.out.items (record { path = c.args.path.now; cuts = c.args.cuts.now })
    c.lend.ensures.ok c.lend.ensures.err in
    let fits : length c.self.inside.lent + vec_len c.lend.new.out + vec_len c.reserve.new.self ≤ vec_capacity c.reserve.new.self =
    omega (arith, more, c.in_ok-reserve.ensures.ok, c.in_ok-reserve.ensures.len, c.len.ensures, c.len-2.ensures) in
    fits
