-- The sums of a tree of ranks.
use Rattle.sum_tree.proofs.Prelude.{◌≡◌, ℕ, zero, suc, ◌+◌, ◌-◌, ◌*◌, ◌<◌, ◌≤◌, refl, ap, ◌∙◌, arith, min, zero-add, [], sum_by, range_with_len}
use Rattle.sum_tree.proofs.Prelude.{le-mul_of_pos_right, suc-mul, zero-mul, sum_by-cons, children, sum_down}
use Rattle.sum_tree.specs.Tree.{sum_of}
use Rattle.sum_tree.proofs.Ranges.{Within, same_sums, less_sums, joined_sums}

-- a child is below n and has a greater number than its parent
pub child_after : (n width r c : ℕ) → 1 ≤ width → r * width + 1 ≤ c → c < (r * width + 1) + min width (n - (r * width + 1)) → (r < c) × (c < n)
child_after n width r c wide low high =
    let up : r ≤ r * width = le-mul_of_pos_right r wide in (omega arith, omega arith)

-- what holds of all ranks above r and below n holds of its children
pub of_children : (n width r : ℕ) (P : ℕ → Type 0) → 1 ≤ width → ((c : ℕ) → r < c → c < n → P c) → Within (r * width + 1) (min width (n - (r * width + 1))) P
of_children n width r P wide all c low high = let at = child_after n width r c wide low high in all c at.0 at.1

-- more levels than the tree has ranks change nothing
deep_enough : (n width : ℕ) (count : ℕ → ℕ) (i j r : ℕ) → 1 ≤ width → r < n → n ≤ r + i → n ≤ r + j → sum_down n width count i r ≡ sum_down n width count j r
deep_enough n width count zero j r wide inside far near = omega arith
deep_enough n width count (suc i) zero r wide inside far near = omega arith
deep_enough n width count (suc i) (suc j) r wide inside far near =
    ap (λ (s : ℕ). count r + s) (same_sums (sum_down n width count i) (sum_down n width count j) (r * width + 1) (min width (n - (r * width + 1)))
    (of_children n width r (λ c. sum_down n width count i c ≡ sum_down n width count j c) wide
    (λ c above below. deep_enough n width count i j c wide below (omega arith) (omega arith))))

pub sum_is : (n width : ℕ) (count : ℕ → ℕ) (r : ℕ) → 1 ≤ width → r < n → sum_of n width count r ≡ count r + sum_by (sum_of n width count) (children n width r)
unfolding sum_of
sum_is n width count r wide inside = deep_enough n width count n (suc n) r wide inside (omega arith) (omega arith)

-- the ranks k to k * width that are below n, which come next where the tree is gone through level by level
abbrev next : ℕ → ℕ → ℕ → ℕ
next n width k = min (k * width + 1) n - k

-- where there are none, it does not matter where they would begin
same_start : (f : ℕ → ℕ) (a b k : ℕ) → (0 < k → a ≡ b) → sum_by f (range_with_len a k) ≡ sum_by f (range_with_len b k)
same_start f a b zero same = refl
same_start f a b (suc k) same = ap (λ (i : ℕ). sum_by f (range_with_len i (suc k))) (same (omega arith))

-- the first k ranks were counted each by itself, and those that come next with all below them
level_by_level : (n width : ℕ) (count : ℕ → ℕ) (k : ℕ) → 1 ≤ width → 1 ≤ n → k ≤ n
    → sum_by count (range_with_len 0 k) + sum_by (sum_of n width count) (range_with_len k (next n width k)) ≡ sum_of n width count 0
level_by_level n width count zero wide some inside =
    let S : ℕ → ℕ = sum_of n width count in
    let one : next n width 0 ≡ 1 = (let none : 0 * width ≡ 0 = zero-mul width in omega arith) in
    let alone = sum_by-cons S 0 [] in
    ap (λ (k : ℕ). 0 + sum_by S (range_with_len 0 k)) one ∙ omega arith
level_by_level n width count (suc k) wide some inside =
    let S : ℕ → ℕ = sum_of n width count in
    let kids : ℕ = min width (n - (k * width + 1)) in
    let left : ℕ = next n width k - 1 in
    let before = level_by_level n width count k wide some (omega arith) in
    let own = sum_is n width count k wide (omega arith) in
    let up : k ≤ k * width = le-mul_of_pos_right k wide in
    let step : suc k * width ≡ k * width + width = suc-mul k width in
    let counted = joined_sums count 0 k 1 in
    let one : sum_by count (range_with_len (0 + k) 1) ≡ count k = ap (λ (i : ℕ). sum_by count (range_with_len i 1)) (zero-add k)
    ∙ sum_by-cons count k [] ∙ omega arith in
    let next_up : suc k ≡ k + 1 = omega arith in
    let more : sum_by count (range_with_len 0 (suc k)) ≡ sum_by count (range_with_len 0 (k + 1)) = ap (λ (i : ℕ). sum_by count (range_with_len 0 i)) next_up in
    let here : sum_by S (range_with_len k 1) ≡ S k = sum_by-cons S k [] ∙ omega arith in
    let size : next n width k ≡ 1 + left = omega arith in
    let queued : sum_by S (range_with_len k (next n width k)) ≡ sum_by S (range_with_len k (1 + left)) = ap (λ (i : ℕ). sum_by S (range_with_len k i)) size in
    let first = joined_sums S k 1 left in
    let rest = joined_sums S (k + 1) left kids in
    let children_are : sum_by S (range_with_len (k + 1 + left) kids) ≡ sum_by S (children n width k) =
    same_start S (k + 1 + left) (k * width + 1) kids (λ some. omega arith) in
    let size_after : next n width (suc k) ≡ left + kids = omega arith in
    let after : sum_by S (range_with_len (suc k) (next n width (suc k))) ≡ sum_by S (range_with_len (k + 1) (left + kids)) =
    ap (λ (i : ℕ). sum_by S (range_with_len (suc k) i)) size_after ∙ ap (λ (i : ℕ). sum_by S (range_with_len i (left + kids))) next_up in
    omega arith

-- the sum of rank 0 is the sum of all counts
pub sum_of_all : (n width : ℕ) (count : ℕ → ℕ) → 1 ≤ width → 1 ≤ n → sum_of n width count 0 ≡ sum_by count (range_with_len 0 n)
sum_of_all n width count wide some =
    let S : ℕ → ℕ = sum_of n width count in
    let last = level_by_level n width count n wide some (omega arith) in
    let empty : next n width n ≡ 0 = omega arith in
    let none : sum_by S (range_with_len n (next n width n)) ≡ 0 = ap (λ (k : ℕ). sum_by S (range_with_len n k)) empty in
    omega arith

-- no sum is more than that of all
pub sum_within_all : (n width : ℕ) (count : ℕ → ℕ) (r : ℕ) → 1 ≤ width → r < n → sum_of n width count r ≤ sum_by count (range_with_len 0 n)
sum_within_all n width count r wide inside =
    let S : ℕ → ℕ = sum_of n width count in
    let left : ℕ = next n width r - 1 in
    let all = sum_of_all n width count wide (omega arith) in
    let there = level_by_level n width count r wide (omega arith) (omega arith) in
    let up : r ≤ r * width = le-mul_of_pos_right r wide in
    let size : next n width r ≡ 1 + left = omega arith in
    let queued : sum_by S (range_with_len r (next n width r)) ≡ sum_by S (range_with_len r (1 + left)) = ap (λ (i : ℕ). sum_by S (range_with_len r i)) size in
    let first = joined_sums S r 1 left in
    let here : sum_by S (range_with_len r 1) ≡ S r = sum_by-cons S r [] ∙ omega arith in
    omega arith

at_most_down : (n width : ℕ) (count word : ℕ → ℕ) (levels r : ℕ) → 1 ≤ width → r < n → n ≤ r + levels
    → ((q : ℕ) → word q ≤ count q + sum_by word (children n width q)) → word r ≤ sum_down n width count levels r
at_most_down n width count word zero r wide inside deep low = absurd (omega arith)
at_most_down n width count word (suc levels) r wide inside deep low =
    let here = low r in
    let below : sum_by word (children n width r) ≤ sum_by (sum_down n width count levels) (children n width r) =
    less_sums word (sum_down n width count levels) (r * width + 1) (min width (n - (r * width + 1)))
    (of_children n width r (λ c. word c ≤ sum_down n width count levels c) wide
    (λ c above inside. at_most_down n width count word levels c wide inside (omega arith) low)) in
    omega arith

-- words of which each holds at most its own count and what those of its children hold, hold at most the sums
pub words_at_most : (n width : ℕ) (count word : ℕ → ℕ) (r : ℕ) → 1 ≤ width → r < n
    → ((q : ℕ) → word q ≤ count q + sum_by word (children n width q)) → word r ≤ sum_of n width count r
unfolding sum_of
words_at_most n width count word r wide inside low = at_most_down n width count word n r wide inside (omega arith) low

-- a set of ranks that has each child of its members
abbrev pub IsClosed : ℕ → ℕ → (ℕ → Type 0) → Type 0
IsClosed n width P = (r : ℕ) → P r → Within (r * width + 1) (min width (n - (r * width + 1))) P

exact_down : (n width : ℕ) (count word : ℕ → ℕ) (P : ℕ → Type 0) (levels r : ℕ) → 1 ≤ width → r < n → n ≤ r + levels → IsClosed n width P → P r
    → ((q : ℕ) → P q → word q ≡ count q + sum_by word (children n width q)) → word r ≡ sum_down n width count levels r
exact_down n width count word P zero r wide inside deep closed p exact = absurd (omega arith)
exact_down n width count word P (suc levels) r wide inside deep closed p exact =
    exact r p ∙ ap (λ (s : ℕ). count r + s) (same_sums word (sum_down n width count levels) (r * width + 1) (min width (n - (r * width + 1)))
    (λ c low high. let at = child_after n width r c wide low high in
    exact_down n width count word P levels c wide at.1 (omega arith) closed (closed r p c low high) exact))

-- where a closed set of words holds just what it holds, they hold the sums
pub words_exact : (n width : ℕ) (count word : ℕ → ℕ) (P : ℕ → Type 0) (r : ℕ) → 1 ≤ width → r < n → IsClosed n width P → P r
    → ((q : ℕ) → P q → word q ≡ count q + sum_by word (children n width q)) → word r ≡ sum_of n width count r
unfolding sum_of
words_exact n width count word P r wide inside closed p exact = exact_down n width count word P n r wide inside (omega arith) closed p exact
