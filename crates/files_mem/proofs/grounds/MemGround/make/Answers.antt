use Rattle.files_mem.proofs.Prelude.{rules, ◌≡◌, sym, ap, ◌∙◌, false, subst, Err, insert, make_refusal, Acts, answered, write_error, is_planned, node_of}
use Rattle.files_mem.proofs.Acting.{ground_refused}
use Rattle.files_mem.proofs.grounds.MemGround.make.Goals as goal

pub returns-in_err-put-clause-acts : goal.returns-in_err-put-clause-acts
returns-in_err-put-clause-acts c =
    let planned : is_planned c.args.call c.args.path.now c.args.self.now.planned ≡ false = sym c.fails.ensures.planned ∙ c.if-fails.false in
    let same = c.fails.ensures.counted ∙ ap (λ b. answered b c.args.self.now) planned in
    let is : c.from_residual.result ≡ Err (write_error c.in_err-put.field-0.0) = search rules in
    subst (λ r. Acts c.args.call c.args.path.now (make_refusal c.args.self.now.area c.args.self.now.files c.args.path.now)
    (insert c.args.self.now.files c.args.path.now (node_of c.args.node)) c.args.self.now r c.put.new.self) (sym is)
    (ground_refused c.args.call c.args.path.now c.self.inside.held.out c.self.inside.held.cut
    (insert c.args.self.now.files c.args.path.now (node_of c.args.node)) c.args.self.now c.put.new.self c.in_err-put.field-0.0
    (search rules) (sym (ap (λ m. m.area) c.self.view_is)) planned (c.in_err-put.ensures.same ∙ same))
