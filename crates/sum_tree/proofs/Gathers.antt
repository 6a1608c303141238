-- The final sum of rank 0 is the sum of the counts that all seats show.
use Rattle.sum_tree.proofs.Prelude.{◌≡◌, ℕ, ◌<◌, ◌≤◌, refl, sym, subst, ap, ◌∙◌, arith, true, false, List, length, get_or, sum_by, Option, Some, None, is_some}
use Rattle.sum_tree.proofs.Prelude.{IsSome, IfSome, Contains, range_with_len, get_or_read, Contains-permutation, IsPermutation-sym, length_permutation}
use Rattle.sum_tree.proofs.Prelude.{sum_by-IsPermutation, pick_l_whole, spare, SumTold, uncounted, rank_of, count_of, word_of, is_final, SumShown, AllFinished}
use Rattle.sum_tree.proofs.Prelude.{RankSum}
use Rattle.sum_tree.specs.Plain.{IsSeat}
use Rattle.sum_tree.proofs.Ranges.{same_sums, sum_of_map}
use Rattle.sum_tree.proofs.Trees.{sum_of_all}

some_is : (o : Option ℕ) → IsSome o → is_some o ≡ true
some_is None some = some
some_is (Some x) some = refl

answer_is : (o : Option ℕ) (word : ℕ) → IsSome o → IfSome o (λ sum. sum ≡ word) → o ≡ Some word
answer_is None word some same = absurd (let e : false ≡ true = some in cc)
answer_is (Some x) word some same = ap Some same

counts_are : (all : List SumShown) (d : SumShown)
    → sum_by (λ (s : SumShown). s.count) all ≡ sum_by (λ k. (get_or all k d).count) (range_with_len 0 (length all))
counts_are all d = ap (sum_by (λ (s : SumShown). s.count)) (sym (pick_l_whole d all (length all) refl))
    ∙ sum_of_map (λ (s : SumShown). s.count) (λ k. get_or all k d) (range_with_len 0 (length all))

module _ (t : SumTold) (all : List SumShown) (finished : AllFinished (λ s. s) (IsSeat t) all) where
  pub some_rank : 0 < length all → 0 < length t.ranks
  some_rank some =
      let as_many = length_permutation finished.ranks all finished.same in
      let inside = (finished.by_number 0 (spare all some) (omega arith)).0.shown.inside in omega arith

  -- the word of rank 0 as a body reads it, from a list with the ranks
  pub first_word : (xs : List RankSum) (x : RankSum) → xs ≡ t.ranks → 0 < length all → x ≡ get_or xs 0 x → x.word ≡ word_of t 0
  first_word xs x are some read =
      let inside : 0 < length xs = subst (λ (ys : List RankSum). 0 < length ys) (sym are) (some_rank some) in
      ap (λ (y : RankSum). y.word) (get_or_read xs 0 x inside read uncounted) ∙ ap (λ (ys : List RankSum). word_of (record t { ranks = ys }) 0) are

  -- the word of rank 0
  pub gathered : 0 < length all → word_of t 0 ≡ sum_by (λ (s : SumShown). s.count) all
  gathered some =
      let d : SumShown = spare all some in
      let ranks : List SumShown = finished.ranks in
      let as_many : length all ≡ length ranks = length_permutation ranks all finished.same in
      let first : SumShown = get_or ranks 0 d in
      let (seat, number, n, answered) = finished.by_number 0 d (omega arith) in
      let size : length t.ranks ≡ length ranks = sym seat.shown.sized ∙ n in
      let wide : 1 ≤ t.width = (let two = seat.rule.wide in omega arith) in
      let own : rank_of t 0 ≡ rank_of t first.number = ap (rank_of t) (sym number) in
      let final : is_final t 0 ≡ true = ap (λ (x : RankSum). x.is_final) (own ∙ seat.shown.same) ∙ some_is first.answer answered in
      seat.shown.sound.exact 0 final ∙ sum_of_all (length t.ranks) t.width (count_of t) wide (omega arith)
      ∙ ap (λ (n : ℕ). sum_by (count_of t) (range_with_len 0 n)) size
      ∙ same_sums (count_of t) (λ k. (get_or ranks k d).count) 0 (length ranks)
      (λ k low high. let (other, at, _, _) = finished.by_number k d (omega arith) in
      ap (λ (x : RankSum). x.count) (ap (rank_of t) (sym at) ∙ other.shown.same))
      ∙ sym (counts_are ranks d) ∙ sym (sum_by-IsPermutation (λ (s : SumShown). s.count) ranks all finished.same)

  -- which the seat of rank 0 answered
  pub first_answered : (s : SumShown) → Contains all s → s.number ≡ 0 → s.answer ≡ Some (word_of t 0)
  first_answered s c lowest =
      let (k, lt, at) = Contains-permutation all finished.ranks s (IsPermutation-sym finished.ranks all finished.same) c in
      let (seat, number, n, answered) = finished.by_number k s lt in
      let word : word_of t 0 ≡ (get_or finished.ranks k s).word =
      ap (λ (x : RankSum). x.word) (ap (rank_of t) (sym (ap (λ (x : SumShown). x.number) at ∙ lowest)) ∙ seat.shown.same) in
      ap (λ (x : SumShown). x.answer) (sym at)
      ∙ answer_is (get_or finished.ranks k s).answer (get_or finished.ranks k s).word answered seat.answered ∙ ap Some (sym word)
