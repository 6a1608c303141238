-- One rank's count and word change, and the rule of plain sums is kept.
use Rattle.sum_tree.proofs.Prelude.{◌≡◌, ℕ, ◌+◌, ◌-◌, ◌*◌, ◌^◌, ◌<◌, ◌≤◌, ◌≢◌, sym, subst, ap, ◌∙◌, arith, min, true, false, length, get_or-set_same}
use Rattle.sum_tree.proofs.Prelude.{get_or-set_other, length-set, sum_by, mul-le-mul_right, dite, ℕ_discrete, dec_le, list_all, get_or_past, false≢true}
use Rattle.sum_tree.proofs.Prelude.{children, SumTold, uncounted, rank_of, count_of, word_of, is_final, children_in, sum_in, words_below, are_final_below}
use Rattle.sum_tree.proofs.Prelude.{Sound, put_rank, RankSum}
use Rattle.sum_tree.specs.Plain.{Rule}
use Rattle.sum_tree.proofs.Ranges.{Within, same_sums, less_sums, sum_bounded, tested_at, tests_all}
use Rattle.sum_tree.proofs.Trees.{child_after, sum_is, sum_within_all, words_at_most, words_exact}

-- what a rank turns into by a call of its own
pub record Grows (t : SumTold) (r : ℕ) (x : RankSum) : Type 0 where
  pub inside : r < length t.ranks
  pub not_final : is_final t r ≡ false
  pub capped : x.count ≤ 2 ^ 56 - 1
  pub counts : count_of t r ≤ x.count
  pub words : word_of t r ≤ x.word
  pub low : x.word ≤ x.count + words_below t r
  pub final : x.is_final ≡ true → (x.word ≡ x.count + words_below t r) × (are_final_below t r ≡ true)

-- what holds of each child
abbrev OfEachChild : SumTold → ℕ → (ℕ → Type 0) → Type 0
OfEachChild t r P = Within (r * t.width + 1) (min t.width (length t.ranks - (r * t.width + 1))) P

final_children : (t : SumTold) (r : ℕ) → are_final_below t r ≡ true → OfEachChild t r (λ c. is_final t c ≡ true)
final_children t r all = tested_at (is_final t) (r * t.width + 1) (min t.width (length t.ranks - (r * t.width + 1))) all

-- a rank that there is not has counted nothing
none_there : (t : SumTold) (r : ℕ) → length t.ranks ≤ r → rank_of t r ≡ uncounted
none_there t r past = get_or_past t.ranks r uncounted past

final_inside : (t : SumTold) (r : ℕ) → is_final t r ≡ true → r < length t.ranks
final_inside t r final = dite (dec_le (length t.ranks) r)
    (λ past. absurd (false≢true (sym (ap (λ (x : RankSum). x.is_final) (none_there t r past)) ∙ final)))
    (λ there. omega arith)

-- a final word holds the own count and what the words of the children hold
own_and_below : (t : SumTold) (r : ℕ) → 1 ≤ t.width → Sound t → is_final t r ≡ true → word_of t r ≡ count_of t r + words_below t r
own_and_below t r wide sound final =
    let first : ℕ = r * t.width + 1 in
    let many : ℕ = min t.width (length t.ranks - first) in
    sound.exact r final ∙ sum_is (length t.ranks) t.width (count_of t) r wide (final_inside t r final)
    ∙ ap (λ (s : ℕ). count_of t r + s)
    (same_sums (sum_in t) (word_of t) first many
    (λ c low high. sym (sound.exact c (final_children t r (sound.below r final) c low high))))

-- what suffices for sums to be sound
pub sound_where : (t : SumTold) → 1 ≤ t.width → ((r : ℕ) → word_of t r ≤ count_of t r + words_below t r)
    → ((r : ℕ) → is_final t r ≡ true → (word_of t r ≡ count_of t r + words_below t r) × (are_final_below t r ≡ true)) → Sound t
sound_where t wide low final = record {
  at_most = λ r. dite (dec_le (length t.ranks) r)
      (λ past. let none : word_of t r ≡ 0 = ap (λ (x : RankSum). x.word) (none_there t r past) in omega arith)
      (λ there. words_at_most (length t.ranks) t.width (count_of t) (word_of t) r wide (omega arith) low);
  exact = λ r is. words_exact (length t.ranks) t.width (count_of t) (word_of t) (λ q. is_final t q ≡ true) r wide (final_inside t r is)
      (λ q all. final_children t q (final q all).1) is (λ q all. (final q all).0);
  below = λ r is. (final r is).1;
}

module _ (t : SumTold) (r : ℕ) (x : RankSum) where
  abbrev after : SumTold
  after = put_rank t r x

  here : Grows t r x → rank_of after r ≡ x
  here grows = get_or-set_same t.ranks r x uncounted grows.inside

  there : (q : ℕ) → q ≢ r → rank_of after q ≡ rank_of t q
  there q apart = get_or-set_other t.ranks r q x uncounted apart

  as_many : length after.ranks ≡ length t.ranks
  as_many = length-set t.ranks r x

  same_children : (q : ℕ) → children_in after q ≡ children_in t q
  same_children q = ap (λ (n : ℕ). children n t.width q) as_many

  words_rise : Grows t r x → (q : ℕ) → word_of t q ≤ word_of after q
  words_rise grows q = dite (ℕ_discrete q r)
      (λ e. subst (λ (k : ℕ). word_of t k ≤ word_of after k) (sym e) (let own = ap (λ (y : RankSum). y.word) (here grows) in
      let up = grows.words in omega arith))
      (λ ne. let same = ap (λ (y : RankSum). y.word) (there q ne) in omega arith)

  below_rise : Grows t r x → (q : ℕ) → words_below t q ≤ words_below after q
  below_rise grows q =
      let same : words_below after q ≡ sum_by (word_of after) (children_in t q) = ap (sum_by (word_of after)) (same_children q) in
      let more = less_sums (word_of t) (word_of after) (q * t.width + 1) (min t.width (length t.ranks - (q * t.width + 1)))
      (λ c low high. words_rise grows c) in
      omega arith

  -- the words below a rank stay, where that of r is not among them
  below_stay : (q : ℕ) → OfEachChild t q (λ c. c ≢ r) → words_below after q ≡ words_below t q
  below_stay q apart = ap (sum_by (word_of after)) (same_children q)
      ∙ same_sums (word_of after) (word_of t) (q * t.width + 1) (min t.width (length t.ranks - (q * t.width + 1)))
      (λ c low high. ap (λ (y : RankSum). y.word) (there c (apart c low high)))

  finals_stay : (q : ℕ) → OfEachChild t q (λ c. c ≢ r) → are_final_below t q ≡ true → are_final_below after q ≡ true
  finals_stay q apart all = ap (list_all (is_final after)) (same_children q)
      ∙ tests_all (is_final after) (q * t.width + 1) (min t.width (length t.ranks - (q * t.width + 1)))
      (λ c low high. ap (λ (y : RankSum). y.is_final) (there c (apart c low high)) ∙ final_children t q all c low high)

  -- a final word is not that of r
  not_r : Grows t r x → (q : ℕ) → is_final t q ≡ true → q ≢ r
  not_r grows q final e = false≢true (sym grows.not_final ∙ subst (λ (k : ℕ). is_final t k ≡ true) e final)

  final_apart : Grows t r x → (q : ℕ) → are_final_below t q ≡ true → OfEachChild t q (λ c. c ≢ r)
  final_apart grows q all c low high = not_r grows c (final_children t q all c low high)

  own_apart : 1 ≤ t.width → OfEachChild t r (λ c. c ≢ r)
  own_apart wide c low high = let above = child_after (length t.ranks) t.width r c wide low high in omega (arith, above.0)

  low_after : Rule t → Grows t r x → (q : ℕ) → word_of after q ≤ count_of after q + words_below after q
  low_after rule grows q = dite (ℕ_discrete q r)
      (λ e. subst (λ (k : ℕ). word_of after k ≤ count_of after k + words_below after k) (sym e)
      (let word = ap (λ (y : RankSum). y.word) (here grows) in
      let count = ap (λ (y : RankSum). y.count) (here grows) in
      let wide = rule.wide in
      let below = below_stay r (own_apart (omega arith)) in
      let low = grows.low in omega arith))
      (λ ne. let word = ap (λ (y : RankSum). y.word) (there q ne) in
      let count = ap (λ (y : RankSum). y.count) (there q ne) in
      let below = below_rise grows q in
      let low = rule.low q in omega arith)

  final_after : Rule t → Sound t → Grows t r x → (q : ℕ) → is_final after q ≡ true
      → (word_of after q ≡ count_of after q + words_below after q) × (are_final_below after q ≡ true)
  final_after rule sound grows q final =
      let wide : 1 ≤ t.width = (let two = rule.wide in omega arith) in dite (ℕ_discrete q r)
      (λ e. subst (λ (k : ℕ). (word_of after k ≡ count_of after k + words_below after k) × (are_final_below after k ≡ true)) (sym e)
      (let all = grows.final (sym (ap (λ (y : RankSum). y.is_final) (here grows)) ∙ subst (λ (k : ℕ). is_final after k ≡ true) e final) in
      let word = ap (λ (y : RankSum). y.word) (here grows) in
      let count = ap (λ (y : RankSum). y.count) (here grows) in
      let below = below_stay r (own_apart wide) in
      (let sum = all.0 in omega arith, finals_stay r (own_apart wide) all.1)))
      (λ ne. let was : is_final t q ≡ true = sym (ap (λ (y : RankSum). y.is_final) (there q ne)) ∙ final in
      let all = sound.below q was in
      let word = ap (λ (y : RankSum). y.word) (there q ne) in
      let count = ap (λ (y : RankSum). y.count) (there q ne) in
      let below = below_stay q (final_apart grows q all) in
      let sum = own_and_below t q wide sound was in
      (omega arith, finals_stay q (final_apart grows q all) all))

  pub rule_after : Rule t → Grows t r x → Rule after
  rule_after rule grows = record {
    wide = rule.wide;
    narrow = rule.narrow;
    few = let few = rule.few in let same = as_many in omega arith;
    capped = λ q. dite (ℕ_discrete q r)
        (λ e. subst (λ (k : ℕ). count_of after k ≤ 2 ^ 56 - 1) (sym e)
        (subst (λ (n : ℕ). n ≤ 2 ^ 56 - 1) (sym (ap (λ (y : RankSum). y.count) (here grows))) grows.capped))
        (λ ne. subst (λ (n : ℕ). n ≤ 2 ^ 56 - 1) (sym (ap (λ (y : RankSum). y.count) (there q ne))) (rule.capped q));
    low = low_after rule grows;
  }

  pub sound_after : Rule t → Sound t → Grows t r x → Sound after
  sound_after rule sound grows = sound_where after (let two = rule.wide in omega arith) (low_after rule grows) (final_after rule sound grows)

-- the own count and what the words of the children hold are at most the sum, and the sums are far from the end of the numbers
pub fits : (t : SumTold) (r : ℕ) → Rule t → Sound t → r < length t.ranks → count_of t r + words_below t r < 2 ^ 62
fits t r rule sound inside =
    let n : ℕ = length t.ranks in
    let wide : 1 ≤ t.width = (let two = rule.wide in omega arith) in
    let first : ℕ = r * t.width + 1 in
    let many : ℕ = min t.width (n - first) in
    let own = sum_is n t.width (count_of t) r wide inside in
    let below = less_sums (word_of t) (sum_in t) first many (λ c low high. sound.at_most c) in
    let within = sum_within_all n t.width (count_of t) r wide inside in
    let all = sum_bounded (count_of t) 0 n (2 ^ 56 - 1) rule.capped in
    let few = rule.few in
    let most : n * (2 ^ 56 - 1) ≤ 64 * (2 ^ 56 - 1) = mul-le-mul_right (2 ^ 56 - 1) few in
    omega arith

-- where the words of all children are final, they and the own count are the sum
pub sum_where_final : (t : SumTold) (r : ℕ) → Rule t → Sound t → r < length t.ranks → are_final_below t r ≡ true → count_of t r + words_below t r ≡ sum_in t r
sum_where_final t r rule sound inside all =
    let wide : 1 ≤ t.width = (let two = rule.wide in omega arith) in
    let first : ℕ = r * t.width + 1 in
    let many : ℕ = min t.width (length t.ranks - first) in
    ap (λ (s : ℕ). count_of t r + s) (same_sums (word_of t) (sum_in t) first many (λ c low high. sound.exact c (final_children t r all c low high)))
    ∙ sym (sum_is (length t.ranks) t.width (count_of t) r wide inside)
