-- That a count rises changes no word of the sums, so that a word adds up over what was told before as well.
use Rattle.circle_run.proofs.Prelude.{◌≡◌, ℕ, ◌<◌, sym, subst, ap, ◌∙◌, arith, length, length-set, get_or-set_same, get_or-set_other, Option, Some, None}
use Rattle.circle_run.proofs.Prelude.{IfSome, option_map, sum_by, dite, ℕ_discrete, children, SumTold, uncounted, count_of, word_of, children_in, words_below}
use Rattle.circle_run.proofs.Prelude.{told_raised, raised_by, SumShown, Agrees, RankSum, AddsUp}
use Rattle.sum_tree.specs.Told.{rank_of}
use Rattle.circle_run.proofs.Maps.{sum_same}

-- a count that rises changes no word
words_stay : (t : SumTold) (r k q : ℕ) → r < length t.ranks → word_of (told_raised r k t) q ≡ word_of t q
words_stay t r k q inside =
    let x : RankSum = record (rank_of t r) { count = raised_by k (count_of t r) } in
    dite (ℕ_discrete q r)
    (λ e. ap (word_of (told_raised r k t)) e ∙ ap (λ (y : RankSum). y.word) (get_or-set_same t.ranks r x uncounted inside) ∙ ap (word_of t) (sym e))
    (λ ne. ap (λ (y : RankSum). y.word) (get_or-set_other t.ranks r q x uncounted ne))

below_stays : (t : SumTold) (r k q : ℕ) → r < length t.ranks → words_below (told_raised r k t) q ≡ words_below t q
below_stays t r k q inside =
    let after : SumTold = told_raised r k t in
    let x : RankSum = record (rank_of t r) { count = raised_by k (count_of t r) } in
    ap (λ (n : ℕ). sum_by (word_of after) (children n t.width q)) (length-set t.ranks r x)
    ∙ sum_same (word_of after) (word_of t) (children_in t q) (λ i d h. words_stay t r k _ inside)

-- a word that adds up once the own count rose added up before it too, since no other word changed
pub adds_up_raised : (k : ℕ) (told told1 : Option SumTold) (s s2 : SumShown) → Agrees told s → told1 ≡ option_map (told_raised s.number k) told
    → IfSome told1 (AddsUp s2) → IfSome told (AddsUp s2)
adds_up_raised k None told1 s s2 agrees rose exact = tt
adds_up_raised k (Some t) told1 s s2 agrees rose exact =
    let now : AddsUp s2 (told_raised s.number k t) = subst (λ (o : Option SumTold). IfSome o (AddsUp s2)) rose exact in
    let below = below_stays t s.number k s2.number agrees.inside in
    omega (arith, now, below)
