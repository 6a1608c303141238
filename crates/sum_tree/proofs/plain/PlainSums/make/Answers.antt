use Rattle.sum_tree.proofs.Prelude.{◌≡◌, ℕ, arith, rules, ap, sym, subst, ◌∙◌, List, get_or, map, replicate, range_with_len, map-range_with_len_more, uncounted}
use Rattle.sum_tree.proofs.Prelude.{SumShown, started, fresh_seats, RankSum}
use Rattle.sum_tree.specs.Plain.{IsSeat, fresh}
use Rattle.sum_tree.proofs.Begins.{fresh_seats_are}
use Rattle.sum_tree.proofs.plain.PlainSums.make.Goals as goal

pub loop-number-preserved : goal.loop-number-preserved
loop-number-preserved c = let e =
    map-range_with_len_more (fresh c.args.n c.args.width) 0 c.loop-number.number c.loop-number.number (omega arith) in
    cc c.in_ok-push.ensures.items

pub returns-clause-seats : goal.returns-clause-seats
returns-clause-seats c k d inside =
    let n : ℕ = c.args.n in
    let width : ℕ = c.args.width in
    let whole : c.loop-number.number ≡ n = (let end = c.loop-number-test.false in let within = c.loop-number.auto.number-end in omega arith) in
    let seats : c.loop-number.seats.items ≡ fresh_seats n width = c.loop-number.invariant ∙ ap (λ (m : ℕ). map (fresh n width) (range_with_len 0 m)) whole in
    let ranks : c.in_ok-ranks.ranks.items ≡ replicate n uncounted = search rules in
    subst (λ (xs : List RankSum). IsSeat (record { width = width; ranks = xs }) (get_or c.loop-number.seats.items k d)) (sym ranks)
    (subst (λ (ss : List SumShown). IsSeat (started n width) (get_or ss k d)) (sym seats)
    (fresh_seats_are n width k d c.requires.at_most_64 c.requires.two_wide c.requires.at_most_64_wide inside))
