use Rattle.files_mem.proofs.Prelude.{◌≡◌, None, sym, ap, ◌∙◌, Ok, get, write_refusal, written, Lending}
use Rattle.files_mem.proofs.Lending.{write_ground}
use Rattle.files_mem.proofs.grounds.MemGroundPlot.write_at.Goals as goal

pub invariant_of-self-2 : goal.invariant_of-self-2
invariant_of-self-2 c =
    let free : write_refusal (get c.self.inside.held.files c.args.path.now) ≡ None = sym c.in_ok-refused.ensures.told ∙ c.in_default.is in
    let held = ap (λ (h : Lending). record h { files = written h.files c.args.path.now c.args.at c.args.bytes.now }) c.write_refusal.ensures.same in
    write_ground {B = ⊥} (Ok tt) c.self.inside.held c.write.new.self c.args.path.now c.args.at c.args.bytes.now c.self.invariant free
    (c.in_ok-write.ensures.ok ∙ held) tt
