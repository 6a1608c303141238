-- The facts that each step on the words gives the call that makes it: of the step, the seat before, the number found and the seat after. Our own.
-- Private clauses alone cite this.
use Rattle.std.specs.Prelude.{◌≡◌, ℕ, ◌-◌, ◌/◌, ◌%◌, ◌^◌, ◌<◌, ◌≤◌, ◌==◌, Bool, true, false, [], ◌∷◌, ◌++◌, slice_set}
use Rattle.std.specs.List.{Contains, range_with_len, sum_by}
use Rattle.atomic_table.specs.Table.{Me, Step}
use Rattle.sum_tree.specs.Steps.{coded}
use Rattle.sum_tree.specs.TreeRule.{seen_of, below}
use Rattle.sum_tree.specs.declared.tree_views.Known.{Known}
use Rattle.sum_tree.specs.declared.tree_views.View.{View}

-- the knowledge of a seat; the table has no slots
abbrev pub SeatState : Type 0
SeatState = Me (Unit {0}) View

abbrev pub Telling : Type 1
Telling = Step (Unit {0}) → SeatState → ℕ → SeatState → Type 0

abbrev pub knowing : SeatState → Known → SeatState
knowing m k = (record m.0 { own = k }, m.1)

-- the seat knows one reading more
abbrev pub noted : Known → ℕ → ℕ → ℕ → Known
noted v word found left = record v { readings = v.readings ++ record { word = word; found = found; left = left } ∷ [] }

-- load word, of any rank
abbrev pub after_load : Known → ℕ → ℕ → Known
after_load v word found =
    record (noted v word found found) { seen = slice_set v.seen word (found / 2); finals = slice_set v.finals word (found % 2 == 1) }

-- a number that was read before was no more; the numbers read of the children, with all counts, stay within the type; the own word
-- reads as the seat knows
abbrev pub LoadTells : Telling
LoadTells st m r n =
    (n ≡ knowing m (after_load m.0.own st.word r))
    × (seen_of m.0.own st.word ≤ r / 2)
    × (below (after_load m.0.own st.word r) < 2 ^ 62)
    × (st.word ≡ m.0.own.number → r ≡ coded m.0.own.word m.0.own.is_final)

-- store word and final store, of the own word: the number is the own count and the numbers read below, so the count is the number less those
abbrev pub after_store : Known → ℕ → Bool → Known
after_store v left final =
    record (noted v v.number (coded v.word v.is_final) left) { count = left / 2 - below v; word = left / 2; is_final = final }

abbrev pub StoreTells : Telling
StoreTells st m r n = (n ≡ knowing m (after_store m.0.own st.first false)) × (m.0.own.word ≤ st.first / 2)

abbrev pub FinalTells : Telling
FinalTells st m r n = (n ≡ knowing m (after_store m.0.own st.first true)) × (m.0.own.word ≤ st.first / 2)

-- if these are all n ranks by their numbers, among the seats taken in, the final word of rank 0 is the sum of their counts
abbrev pub Totals : View → Type 0
Totals v =
    (f : ℕ → Known)
    → ((k : ℕ) → k < v.own.n → Contains (v.own ∷ v.kept) (f k) × ((f k).number ≡ k))
    → 0 < v.own.n
    → (f 0).is_final ≡ true
    → (f 0).word ≡ sum_by (λ k. (f k).count) (range_with_len 0 v.own.n)

-- the last look
abbrev pub LastLookTells : Telling
LastLookTells st m r n = (n ≡ knowing m (noted m.0.own st.word r r)) × Totals m.0
