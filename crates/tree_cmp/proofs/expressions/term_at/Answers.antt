use Rattle.tree_cmp.proofs.Prelude.{arith, ◌+◌, length-drop, drop, refl, ap, sym, ◌∙◌, ◌==◌, slice_split, take_all, condition_reading, term_reading}
use Rattle.tree_cmp.proofs.Parts.{onto, reads_more}
use Rattle.tree_cmp.proofs.expressions.term_at.Goals as goal

pub loop-end-preserved : goal.loop-end-preserved
loop-end-preserved c =
    let i = c.loop-end.invariant in
    let rest = c.loop-end.rest.now in
    let k = c.in-Some.end in
    let found = c.in-Some.ensures.found in
    let told = reads_more condition_reading term_reading (λ at. refl) (λ at t ts. refl)
    (term_reading c.args.at (slice_split (λ b. b == 64) c.args.text.now)) c.loop-end.conditions.items c.push.new.self.items
    c.in_ok-condition_at.field-0 c.loop-end.at (c.loop-end.at + (k + 1)) k rest
    (slice_split (λ b. b == 64) rest) (slice_split (λ b. b == 64) (drop (k + 1) rest)) i.told found.0 found.1
    (sym c.in_ok-condition_at.ensures) refl c.in_ok-push.ensures.items in
    record {
      told = told ∙ ap (λ r. onto c.push.new.self.items (term_reading (c.loop-end.at + (k + 1)) (slice_split (λ b. b == 64) r)))
          (sym (take_all _ (drop (k + 1) rest) (omega (arith, length-drop (k + 1) rest))));
      places = omega (arith, length-drop (k + 1) rest, i.places, found.0);
    }
