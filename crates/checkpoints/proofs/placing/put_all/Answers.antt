use Rattle.checkpoints.proofs.Prelude.{◌≡◌, ◌+◌, ◌++◌, ◌∷◌, [], ◌∙◌, ap, sym, List, ℕ, take, length, arith, enumerate_from, length-map, map-append, Left}
use Rattle.checkpoints.proofs.Prelude.{numbered}
use Rattle.checkpoints.proofs.Paired.{pair}
use Rattle.checkpoints.proofs.Numbers.{IsAt, one_more}
use Rattle.checkpoints.proofs.placing.put_all.Goals as goal

-- one string more, where the numbers go on from those that were there
put : (old lefts new : List Left) (left : Left) (list : List (List ℕ)) (i : ℕ) →
    numbered lefts ≡ numbered old ++ enumerate_from (length old) (take i list) → new ≡ lefts ++ left ∷ [] → left.number ≡ length lefts →
    IsAt list i left.path.now → numbered new ≡ numbered old ++ enumerate_from (length old) (take (i + 1) list)
put old lefts new left list i e items number at =
    let long = sym (length-map old pair) in
    one_more (numbered old) (numbered lefts) (numbered new) list i left.number left.path.now
    (e ∙ ap (λ (n : ℕ). numbered old ++ enumerate_from n (take i list)) long) (ap numbered items ∙ map-append pair lefts (left ∷ []))
    (number ∙ sym (length-map lefts pair)) at
    ∙ ap (λ (n : ℕ). numbered old ++ enumerate_from n (take (i + 1) list)) (sym long)

pub loop-path-preserved : goal.loop-path-preserved
loop-path-preserved c =
    put c.args.lefts.now.items c.loop-path.lefts.items c.push.new.self.items _ c.args.list.now c.loop-path.path-index c.loop-path.invariant
    c.in_ok-push.ensures.items (omega (arith, c.len-number.ensures, c.loop-path.lefts.ok.0))
    (record { inside = c.loop-path-test.true; is = c.path-item.is })
