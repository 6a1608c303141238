use Rattle.files_mem.proofs.Prelude.{rules, ◌≡◌, None, sym, ap, ◌∙◌, false, subst, Ok, IsTrue, insert, under, is_top, is_open, node_of, is_planned, answered}
use Rattle.files_mem.proofs.Prelude.{put_refusal_at}
use Rattle.files_mem.proofs.Acting.{made_refused, made_free}
use Rattle.files_mem.proofs.Parted.{put_part}
use Rattle.files_mem.proofs.parts.MemPart.make_node.Goals as goal

pub returns-in-Some-clause-acts : goal.returns-in-Some-clause-acts
returns-in-Some-clause-acts c =
    let planned : is_planned c.args.call c.args.path.now c.args.self.now.planned ≡ false = sym c.fails.ensures.planned ∙ c.if-fails.false in
    let same = c.fails.ensures.counted ∙ ap (λ b. answered b c.args.self.now) planned in
    let view = c.self.view_is ∙ same in
    let top : c.is_top-top.result ≡ is_top (under c.self.inside.tops) c.args.path.now = c.is_top-top.ensures
    ∙ ap (λ t. is_top (under t) c.args.path.now) c.paths.ensures in
    made_refused c.args.call c.args.path.now c.self.inside.tops
    (insert c.args.self.now.files c.args.path.now (node_of c.args.node)) c.args.self.now c.fails.new.self c.in-Some.refused
    c.into.result
    (ap (λ f. put_refusal_at (is_top (under c.self.inside.tops) c.args.path.now) f c.args.path.now) (sym (ap (λ m. m.files) view))
    ∙ ap (λ t. put_refusal_at t c.self.inside.store c.args.path.now) (sym top) ∙ sym c.in_ok-refused.ensures ∙ c.in-Some.is)
    (sym (ap (λ m. m.area) view)) (search rules) planned same

pub invariant_of-self-2 : goal.invariant_of-self-2
invariant_of-self-2 c =
    let planned : is_planned c.args.call c.args.path.now c.args.self.now.planned ≡ false = sym c.fails.ensures.planned ∙ c.if-fails.false in
    let same = c.fails.ensures.counted ∙ ap (λ b. answered b c.args.self.now) planned in
    let view = c.self.view_is ∙ same in
    let top : c.is_top-top.result ≡ is_top (under c.self.inside.tops) c.args.path.now = c.is_top-top.ensures
    ∙ ap (λ t. is_top (under t) c.args.path.now) c.paths.ensures in
    let free : put_refusal_at (is_top (under c.self.inside.tops) c.args.path.now) c.self.inside.store c.args.path.now ≡ None =
    ap (λ t. put_refusal_at t c.self.inside.store c.args.path.now) (sym top) ∙ sym c.in_ok-refused.ensures ∙ c.in_default.is in
    put_part {B = ⊥} (Ok tt) c.self.inside.tops c.self.inside.store c.put.new.self c.args.path.now (node_of c.args.node) c.self.invariant
    (subst (λ a. IsTrue (is_open a c.args.path.now)) (sym (ap (λ m. m.area) view)) c.requires) free c.text.ensures.valid
    (c.in_ok-put.ensures.ok ∙ ap (λ k. insert c.self.inside.store k (node_of c.args.node)) c.in_ok-copy.ensures) tt

pub returns-clause-acts : goal.returns-clause-acts
returns-clause-acts c =
    let planned : is_planned c.args.call c.args.path.now c.args.self.now.planned ≡ false = sym c.fails.ensures.planned ∙ c.if-fails.false in
    let same = c.fails.ensures.counted ∙ ap (λ b. answered b c.args.self.now) planned in
    let view = c.self.view_is ∙ same in
    let top : c.is_top-top.result ≡ is_top (under c.self.inside.tops) c.args.path.now = c.is_top-top.ensures
    ∙ ap (λ t. is_top (under t) c.args.path.now) c.paths.ensures in
    let free : put_refusal_at (is_top (under c.self.inside.tops) c.args.path.now) c.args.self.now.files c.args.path.now ≡ None =
    ap (λ f. put_refusal_at (is_top (under c.self.inside.tops) c.args.path.now) f c.args.path.now) (sym (ap (λ m. m.files) view))
    ∙ ap (λ t. put_refusal_at t c.self.inside.store c.args.path.now) (sym top) ∙ sym c.in_ok-refused.ensures ∙ c.in_default.is in
    let put = c.in_ok-put.ensures.ok ∙ ap (λ k. insert c.self.inside.store k (node_of c.args.node)) c.in_ok-copy.ensures
    ∙ ap (λ m. insert m.files c.args.path.now (node_of c.args.node)) view in (
      planned,
      (
        made_free c.args.path.now c.self.inside.tops c.args.self.now free (sym (ap (λ m. m.area) view)),
        λ i. record { files = put i; planned = ap (λ m. m.planned) view i; count = ap (λ m. m.count) view i; area = ap (λ m. m.area) view i },
      ),
    )
