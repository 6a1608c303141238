use Rattle.sum_tree.proofs.Prelude.{ℕ, ◌-◌, ◌+◌, ◌*◌, take, drop, rules, ◌≡◌, ap, sym, length, ◌∙◌, List, SumTold, SumShown, RankSum}
use Rattle.sum_tree.proofs.Rows.{rows_are}
use Rattle.sum_tree.proofs.plain.PlainSums.children.Goals as goal

pub returns-then-first-n : goal.returns-then-first-n
returns-then-first-n c =
    let t : SumTold = c.args.self.now in
    let r : ℕ = c.args.seat.now.number in
    let first : ℕ = c.seat.inside.number * c.self.inside.width + 1 in
    let many : ℕ = c.min-count.result in
    let number : c.seat.inside.number ≡ r = ap (λ (s : SumShown). s.number) c.seat.view_is in
    let width : c.self.inside.width ≡ t.width = ap (λ (v : SumTold). v.width) c.self.view_is in
    let place : first ≡ r * t.width + 1 = ap (λ (k : ℕ). k * c.self.inside.width + 1) number ∙ ap (λ (w : ℕ). r * w + 1) width in
    let ranks : c.deref.result.now ≡ t.ranks = c.deref.ensures.value ∙ ap (λ (v : SumTold). v.ranks) c.self.view_is in
    let size : c.len-n.result ≡ length t.ranks = c.len-n.ensures ∙ sym c.deref.ensures.len ∙ ap length ranks in
    ap (λ (xs : List RankSum). take (first + many - first) (drop first xs)) ranks
    ∙ rows_are t r first many place (search rules) (search rules)
