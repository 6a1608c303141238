use Rattle.tree_cmp.proofs.Prelude.{arith, ◌≡◌, ◌+◌, ◌++◌, ◌∷◌, [], length-drop, drop, map, refl, ap, sym, ◌∙◌, ◌==◌, slice_split, take_all, map-append}
use Rattle.tree_cmp.proofs.Prelude.{term_reading, terms_reading}
use Rattle.tree_cmp.proofs.Parts.{onto, reads_more}
use Rattle.tree_cmp.proofs.expressions.terms_in.Goals as goal

pub loop-end-preserved : goal.loop-end-preserved
loop-end-preserved c =
    let k = c.in-Some.end in
    let rest = c.loop-end.rest.now in
    let added : map (λ term. term.items) c.push.new.self.items
    ≡ map (λ term. term.items) c.loop-end.terms.items ++ c.in_ok-term_at.field-0.items ∷ [] =
    ap (map (λ term. term.items)) c.in_ok-push.ensures.items
    ∙ map-append (λ term. term.items) c.loop-end.terms.items (c.in_ok-term_at.field-0 ∷ []) in
    let told = reads_more (λ at t. term_reading at (slice_split (λ b. b == 64) t)) terms_reading (λ at. refl) (λ at t ts. refl)
    (terms_reading 0 (slice_split (λ b. b == 44) c.args.text.now)) (map (λ term. term.items) c.loop-end.terms.items)
    (map (λ term. term.items) c.push.new.self.items)
    c.in_ok-term_at.field-0.items c.loop-end.at (c.loop-end.at + (k + 1)) k rest (slice_split (λ b. b == 44) rest)
    (slice_split (λ b. b == 44) (drop (k + 1) rest)) c.loop-end.invariant.told c.in-Some.ensures.found.0 c.in-Some.ensures.found.1
    c.in_ok-term_at.ensures.ok refl added in
    record {
      told = told ∙ ap (λ r. onto (map (λ term. term.items) c.push.new.self.items)
          (terms_reading (c.loop-end.at + (k + 1)) (slice_split (λ b. b == 44) r)))
          (sym (take_all _ (drop (k + 1) rest) (omega (arith, length-drop (k + 1) rest))));
      places = omega (arith, length-drop (k + 1) rest, c.loop-end.invariant.places, c.in-Some.ensures.found.0);
    }
