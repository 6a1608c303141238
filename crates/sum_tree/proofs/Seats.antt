-- A call of one seat keeps all seats of plain sums.
use Rattle.sum_tree.proofs.Prelude.{◌≡◌, ℕ, ◌+◌, ◌-◌, ◌<◌, ◌≤◌, ◌≢◌, ◌^◌, refl, sym, subst, ap, ◌∙◌, arith, true, false, length, length-set, get_or-set_same}
use Rattle.sum_tree.proofs.Prelude.{get_or-set_other, Option, Some, None, IfSome, is_some, false≢true, SumTold, uncounted, rank_of, count_of, word_of, is_final}
use Rattle.sum_tree.proofs.Prelude.{words_below, are_final_below, sum_in, raised_by, put_rank, SumShown, rank_shown, raised, refreshed, finished, RankSum}
use Rattle.sum_tree.specs.Plain.{IsSeat}
use Rattle.sum_tree.proofs.Rules.{Grows, rule_after, sound_after, fits, sum_where_final}

-- a call after which the seat shows this
abbrev pub told_after : SumTold → SumShown → SumTold
told_after t after = put_rank t after.number (rank_shown after)

pub record Keeps (t : SumTold) (s after : SumShown) : Type 0 where
  pub mine : IsSeat (told_after t after) after
  pub others : (o : SumShown) → o.number ≢ s.number → IsSeat t o → IsSeat (told_after t after) o

keeps : (t : SumTold) (s after : SumShown) → IsSeat t s → Grows t s.number (rank_shown after) → after.number ≡ s.number → after.n ≡ s.n → after.width ≡ s.width
    → IfSome after.answer (λ sum. sum ≡ after.word) → Keeps t s after
keeps t s after seat grows number n width answered =
    let x : RankSum = rank_shown after in
    let place : told_after t after ≡ put_rank t s.number x = ap (λ (k : ℕ). put_rank t k x) number in
    let size : length (put_rank t s.number x).ranks ≡ length t.ranks = length-set t.ranks s.number x in
    let inside = seat.shown.inside in
    record {
      mine = subst (λ (u : SumTold). IsSeat u after) (sym place) (record {
        rule = rule_after t s.number x seat.rule grows;
        shown = record {
          sound = sound_after t s.number x seat.rule seat.shown.sound grows;
          wide = width ∙ seat.shown.wide;
          sized = n ∙ seat.shown.sized ∙ sym size;
          inside = omega arith;
          same = ap (rank_of (put_rank t s.number x)) number ∙ get_or-set_same t.ranks s.number x uncounted inside;
        };
        answered = answered;
      });
      others = λ o apart other. subst (λ (u : SumTold). IsSeat u o) (sym place) (record {
        rule = rule_after t s.number x seat.rule grows;
        shown = record {
          sound = sound_after t s.number x seat.rule seat.shown.sound grows;
          wide = other.shown.wide;
          sized = other.shown.sized ∙ sym size;
          inside = let there = other.shown.inside in omega arith;
          same = get_or-set_other t.ranks s.number o.number x uncounted apart ∙ other.shown.same;
        };
        answered = other.answered;
      });
    }

not_final : (t : SumTold) (s : SumShown) → IsSeat t s → s.answer ≡ None → is_final t s.number ≡ false
not_final t s seat counting = ap (λ (x : RankSum). x.is_final) seat.shown.same ∙ ap is_some counting

-- the seat's rank, as it was told
counted : (t : SumTold) (s : SumShown) → IsSeat t s → count_of t s.number ≡ s.count
counted t s seat = ap (λ (x : RankSum). x.count) seat.shown.same

held : (t : SumTold) (s : SumShown) → IsSeat t s → word_of t s.number ≡ s.word
held t s seat = ap (λ (x : RankSum). x.word) seat.shown.same

-- a rank whose final sum is not answered may count more, and write what it has counted and what its children tell
grows : (t : SumTold) (s : SumShown) (x : RankSum) → IsSeat t s → s.answer ≡ None → s.count ≤ x.count → x.count ≤ 2 ^ 56 - 1
    → s.word ≤ x.word → x.word ≤ x.count + words_below t s.number
    → (x.is_final ≡ true → (x.word ≡ x.count + words_below t s.number) × (are_final_below t s.number ≡ true)) → Grows t s.number x
grows t s x seat counting more capped up low final =
    let count = counted t s seat in
    let word = held t s seat in
    record {
      inside = seat.shown.inside;
      not_final = not_final t s seat counting;
      capped = capped;
      counts = omega arith;
      words = omega arith;
      low = low;
      final = final;
    }

low_of : (t : SumTold) (s : SumShown) → IsSeat t s → s.word ≤ s.count + words_below t s.number
low_of t s seat = let count = counted t s seat in let word = held t s seat in let low = seat.rule.low s.number in omega arith

capped_of : (t : SumTold) (s : SumShown) → IsSeat t s → s.count ≤ 2 ^ 56 - 1
capped_of t s seat = let count = counted t s seat in let capped = seat.rule.capped s.number in omega arith

pub raise_keeps : (t : SumTold) (s : SumShown) (k : ℕ) → IsSeat t s → s.answer ≡ None → Keeps t s (raised k s)
raise_keeps t s k seat counting =
    let capped = capped_of t s seat in
    let low = low_of t s seat in
    keeps t s (raised k s) seat
    (grows t s (rank_shown (raised k s)) seat counting (omega arith) (omega arith) (omega arith) (omega arith)
    (λ e. absurd (false≢true (sym (ap is_some counting) ∙ e))))
    refl refl refl seat.answered

pub refresh_keeps : (t : SumTold) (s : SumShown) (word : ℕ) → IsSeat t s → s.answer ≡ None → word ≡ s.count + words_below t s.number
    → Keeps t s (refreshed word s)
refresh_keeps t s word seat counting sum =
    let capped = capped_of t s seat in
    let low = low_of t s seat in
    keeps t s (refreshed word s) seat
    (grows t s (rank_shown (refreshed word s)) seat counting (omega arith) capped (omega arith) (omega arith)
    (λ e. absurd (false≢true (sym (ap is_some counting) ∙ e))))
    refl refl refl (subst (λ (o : Option ℕ). IfSome o (λ sum. sum ≡ word)) (sym counting) tt)

pub finish_keeps : (t : SumTold) (s : SumShown) (sum : ℕ) → IsSeat t s → s.answer ≡ None → sum ≡ s.count + words_below t s.number
    → are_final_below t s.number ≡ true
    → Keeps t s (finished (Some sum) s)
finish_keeps t s sum seat counting total all =
    let capped = capped_of t s seat in
    let low = low_of t s seat in
    keeps t s (finished (Some sum) s) seat
    (grows t s (rank_shown (finished (Some sum) s)) seat counting (omega arith) capped (omega arith) (omega arith) (λ e. (total, all)))
    refl refl refl refl

-- the sums u are t after a call of the seat s, which then shows this
pub record Done (t u : SumTold) (s now : SumShown) : Type 0 where
  pub mine : IsSeat u now
  pub others : (o : SumShown) → o.number ≢ s.number → IsSeat t o → IsSeat u o

done : (t u : SumTold) (s after now : SumShown) → Keeps t s after → now ≡ after → u ≡ told_after t now → Done t u s now
done t u s after now kept same told = record {
  mine = subst (λ (v : SumTold). IsSeat v now) (sym told) (subst (λ (x : SumShown). IsSeat (told_after t x) x) (sym same) kept.mine);
  others = λ o apart other.
      subst (λ (v : SumTold). IsSeat v o) (sym told)
      (subst (λ (x : SumShown). IsSeat (told_after t x) o) (sym same) (kept.others o apart other));
}

pub raise_done : (t u : SumTold) (s seen : SumShown) (k count : ℕ) → IsSeat t s → s.answer ≡ None → seen ≡ s → count ≡ raised_by k seen.count
    → u ≡ told_after t (record seen { count = count }) → Done t u s (record seen { count = count })
raise_done t u s seen k count seat counting same risen told =
    done t u s (raised k s) (record seen { count = count }) (raise_keeps t s k seat counting)
    (ap (λ (n : ℕ). record seen { count = n }) risen ∙ ap (raised k) same) told

pub refresh_done : (t u : SumTold) (s seen : SumShown) (word : ℕ) → IsSeat t s → s.answer ≡ None → seen ≡ s → word ≡ s.count + words_below t s.number
    → u ≡ told_after t (refreshed word seen) → Done t u s (refreshed word seen)
refresh_done t u s seen word seat counting same sum told =
    done t u s (refreshed word s) (refreshed word seen) (refresh_keeps t s word seat counting sum) (ap (refreshed word) same) told

pub finish_done : (t u : SumTold) (s seen : SumShown) (sum : ℕ) → IsSeat t s → s.answer ≡ None → seen ≡ s
    → sum ≡ s.count + words_below t s.number → are_final_below t s.number ≡ true
    → u ≡ told_after t (finished (Some sum) seen) → Done t u s (finished (Some sum) seen)
finish_done t u s seen sum seat counting same total all told =
    done t u s (finished (Some sum) s) (finished (Some sum) seen) (finish_keeps t s sum seat counting total all) (ap (finished (Some sum)) same) told

-- what a rank has counted and what the words of its children hold, together, is far from the end of the numbers
pub total_fits : (t : SumTold) (s : SumShown) → IsSeat t s → s.count + words_below t s.number < 2 ^ 62
total_fits t s seat = let count = counted t s seat in let small = fits t s.number seat.rule seat.shown.sound seat.shown.inside in omega arith

pub final_sum : (t : SumTold) (s : SumShown) → IsSeat t s → are_final_below t s.number ≡ true → s.count + words_below t s.number ≡ sum_in t s.number
final_sum t s seat all = ap (λ (n : ℕ). n + words_below t s.number) (sym (counted t s seat))
    ∙ sum_where_final t s.number seat.rule seat.shown.sound seat.shown.inside all
