-- The children of a rank stand side by side.
use Rattle.sum_tree.proofs.Prelude.{◌≡◌, ℕ, ◌+◌, ◌-◌, ◌*◌, ◌<◌, sym, ap, ◌∙◌, arith, min, List, length, map, take, drop, sum_by, range_with_len, list_all}
use Rattle.sum_tree.proofs.Prelude.{pick_l-range_with_len, list_all-map, SumTold, uncounted, rank_of, children_in, words_below, are_final_below, RankSum}
use Rattle.sum_tree.proofs.Ranges.{sum_of_map}

pub rows_are : (t : SumTold) (r first count : ℕ) → first ≡ r * t.width + 1 → first < length t.ranks → count ≡ min t.width (length t.ranks - first)
    → take (first + count - first) (drop first t.ranks) ≡ map (rank_of t) (children_in t r)
rows_are t r first count place inside size =
    ap (λ (k : ℕ). take k (drop first t.ranks)) (omega arith)
    ∙ sym (pick_l-range_with_len uncounted t.ranks first count (omega arith))
    ∙ ap (λ (i : ℕ). map (rank_of t) (range_with_len i count)) place
    ∙ ap (λ (k : ℕ). map (rank_of t) (range_with_len (r * t.width + 1) k)) (size ∙ ap (λ (i : ℕ). min t.width (length t.ranks - i)) place)

pub words_are : (t : SumTold) (r : ℕ) (rows : List RankSum) → rows ≡ map (rank_of t) (children_in t r) → sum_by (λ (x : RankSum). x.word) rows ≡ words_below t r
words_are t r rows are = ap (sum_by (λ (x : RankSum). x.word)) are ∙ sum_of_map (λ (x : RankSum). x.word) (rank_of t) (children_in t r)

pub finals_are : (t : SumTold) (r : ℕ) (rows : List RankSum) → rows ≡ map (rank_of t) (children_in t r)
    → list_all (λ (x : RankSum). x.is_final) rows ≡ are_final_below t r
finals_are t r rows are = ap (list_all (λ (x : RankSum). x.is_final)) are ∙ list_all-map (λ (x : RankSum). x.is_final) (rank_of t) (children_in t r)
