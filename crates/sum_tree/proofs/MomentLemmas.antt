-- What the rule says of every moment.
use Rattle.sum_tree.proofs.Prelude.{ℕ, ◌∙◌, sym, ap, coded, RankSum, TableState, Rule, row_of, WordsAreTold, SeatsAreTold}
use Rattle.sum_tree.proofs.WordSteps.{row_at}

pub words_told : (n width : ℕ) (s : TableState) (o : Rule n width s) → WordsAreTold n width s o
words_told n width s o r inside = o.moment.words r inside ∙ ap (λ (x : RankSum). coded x.word x.is_final) (sym (row_at n width o.known r inside))

pub seats_told : (n width : ℕ) (s : TableState) (o : Rule n width s) → SeatsAreTold n width s o
seats_told n width s o k v here live =
    let seat = o.seated k v here live in
    row_at n width o.known k seat.0 ∙ ap row_of seat.1
