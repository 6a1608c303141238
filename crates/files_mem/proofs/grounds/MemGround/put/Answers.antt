use Rattle.files_mem.proofs.Prelude.{◌≡◌, None, sym, ap, ◌∙◌, false, Ok, insert, put_refusal_at, node_of, Lending}
use Rattle.files_mem.proofs.Lending.{put_ground}
use Rattle.files_mem.proofs.grounds.MemGround.put.Goals as goal

pub invariant_of-self-2 : goal.invariant_of-self-2
invariant_of-self-2 c =
    let same = c.put_refusal.ensures.same in
    let free : put_refusal_at false c.self.inside.held.files c.args.path.now ≡ None = sym c.in_ok-refused.ensures.told ∙ c.in_default.is in
    let key = ap (λ k. record c.put_refusal.new.self { files = insert c.put_refusal.new.self.files k (node_of c.args.node) }) c.in_ok-copy.ensures in
    let held = ap (λ (h : Lending). record h { files = insert h.files c.args.path.now (node_of c.args.node) }) same in
    put_ground {B = ⊥} (Ok tt) c.self.inside.held c.put.new.self c.args.path.now
    (node_of c.args.node) c.self.invariant free c.text.ensures.valid (c.in_ok-put.ensures.ok ∙ key ∙ held) tt
