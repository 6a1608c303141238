-- How plain sums begin.
use Rattle.sum_tree.proofs.Prelude.{◌≡◌, ℕ, ◌+◌, ◌<◌, ◌≤◌, refl, sym, subst, ap, ◌∙◌, arith, length, get_or, replicate, zero-add, dite, dec_le, false≢true}
use Rattle.sum_tree.proofs.Prelude.{get_or-replicate, get_or_past, length-replicate, get_or-map-range_with_len, SumTold, uncounted, rank_of, count_of, word_of}
use Rattle.sum_tree.proofs.Prelude.{words_below, SumShown, started, fresh_seats, RankSum}
use Rattle.sum_tree.specs.Plain.{IsSeat, fresh}
use Rattle.sum_tree.proofs.Rules.{sound_where}

nothing : (n width r : ℕ) → rank_of (started n width) r ≡ uncounted
nothing n width r = dite (dec_le n r)
    (λ past. get_or_past (replicate n uncounted) r uncounted (let size = length-replicate n uncounted in omega arith))
    (λ there. get_or-replicate n r uncounted uncounted (omega arith))

pub fresh_is_seat : (n width r : ℕ) → n ≤ 64 → 2 ≤ width → width ≤ 64 → r < n → IsSeat (started n width) (fresh n width r)
fresh_is_seat n width r few wide narrow inside =
    let t : SumTold = started n width in
    let size : length t.ranks ≡ n = length-replicate n uncounted in
    let low : (q : ℕ) → word_of t q ≤ count_of t q + words_below t q = λ q. (let word = ap (λ (x : RankSum). x.word) (nothing n width q) in omega arith) in
    record {
      rule = record {
        wide = wide;
        narrow = narrow;
        few = omega arith;
        capped = λ q. (let count = ap (λ (x : RankSum). x.count) (nothing n width q) in omega arith);
        low = low;
      };
      shown = record {
        sound = sound_where t (omega arith) low (λ q e. absurd (false≢true (sym (ap (λ (x : RankSum). x.is_final) (nothing n width q)) ∙ e)));
        wide = refl;
        sized = sym size;
        inside = omega arith;
        same = nothing n width r;
      };
      answered = tt;
    }

pub fresh_seats_are : (n width k : ℕ) (d : SumShown) → n ≤ 64 → 2 ≤ width → width ≤ 64 → k < n → IsSeat (started n width) (get_or (fresh_seats n width) k d)
fresh_seats_are n width k d few wide narrow inside =
    subst (λ (s : SumShown). IsSeat (started n width) s) (sym (get_or-map-range_with_len (fresh n width) 0 n k k d inside (zero-add k)))
    (fresh_is_seat n width k few wide narrow inside)
