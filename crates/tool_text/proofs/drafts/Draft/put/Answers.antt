use Rattle.tool_text.proofs.Prelude.{◌++◌, take, ap, ap₂, subst, ◌∙◌, rules, flat_map, on_err_weaker}
use Rattle.tool_text.proofs.PutBehind.{PutPart, part_of_more, part_behind}
use Rattle.tool_text.proofs.drafts.Draft.put.Goals as goal

pub returns-in_err-put_pieces-clause-part : goal.returns-in_err-put_pieces-clause-part
returns-in_err-put_pieces-clause-part g c =
    let inside = c.self.inside in
    let whole = ap (λ ps. flat_map (λ p. p.items) ps ++ take inside.stands inside.bytes.items) c.deref.ensures.value ∙ ap (λ d. d.0) c.self.view_is in
    let all = part_of_more _ _ _ _ _ whole c.in_err-put_pieces.ensures.part in
    search (rules, all)

pub returns-clause-part : goal.returns-clause-part
returns-clause-part g c =
    let text = g.S.Sink.text in
    let inside = c.self.inside in
    let whole = ap₂ (λ ps bytes. flat_map (λ p. p.items) ps ++ take inside.stands bytes) c.deref.ensures.value c.deref-2.ensures.value
    ∙ ap (λ d. d.0) c.self.view_is in
    on_err_weaker c.put_all.result (λ put. subst (PutPart (text c.args.sink.now) (text c.put_all.new.sink)) whole
    (part_behind _ _ _ _ _ c.in_ok-put_pieces.ensures.all put)) c.put_all.ensures.part
