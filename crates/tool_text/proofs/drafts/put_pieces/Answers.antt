use Rattle.tool_text.proofs.Prelude.{◌≡◌, ◌<◌, ◌+◌, ℕ, List, ◌++◌, take, drop, length, get_or, ap, sym, ◌∙◌, append_assoc, rules, flat_map, take-append-drop}
use Rattle.tool_text.proofs.Prelude.{drop_more, flat_map-append, flat_map-cons}
use Rattle.tool_text.proofs.PutBehind.{part_of_more, part_behind}
use Rattle.tool_text.proofs.drafts.put_pieces.Goals as goal

-- the pieces before one, the bytes of this one, and the pieces behind it
around : {X : Type 0} (f : X → List ℕ) (xs : List X) (k : ℕ) (x : X) (bytes : List ℕ) → k < length xs → x ≡ get_or xs k x → bytes ≡ f x →
    (flat_map f (take k xs) ++ bytes) ++ flat_map f (drop (k + 1) xs) ≡ flat_map f xs
around f xs k x bytes inside is has =
    let behind = drop (k + 1) xs in
    append_assoc (flat_map f (take k xs)) bytes (flat_map f behind)
    ∙ ap (λ ys. flat_map f (take k xs) ++ (ys ++ flat_map f behind)) (has ∙ ap f is)
    ∙ ap (λ ys. flat_map f (take k xs) ++ ys) (sym (flat_map-cons f (get_or xs k x) behind))
    ∙ ap (λ ys. flat_map f (take k xs) ++ flat_map f ys) (sym (drop_more xs k x inside))
    ∙ sym (flat_map-append f (take k xs) (drop k xs))
    ∙ ap (flat_map f) (take-append-drop k xs)

pub returns-in_err-put_all-clause-part : goal.returns-in_err-put_all-clause-part
returns-in_err-put_all-clause-part g c =
    let text = g.S.Sink.text in
    let piece = c.piece-item.result in
    let whole = around (λ p. p.items) c.args.pieces.now c.loop-piece.piece-index piece c.deref.result.now c.loop-piece-test.true c.piece-item.is
    c.deref.ensures.value in
    let put = part_behind (text c.args.sink.now) (text c.loop-piece.sink) (text c.put_all.new.sink) _ c.deref.result.now
    c.loop-piece.invariant.sent c.in_err-put_all.ensures.part in
    let all = part_of_more _ _ _ _ _ whole put in
    search (rules, all)
