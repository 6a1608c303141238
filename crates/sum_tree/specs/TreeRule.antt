-- The rule of sums over atomic words, which holds between any two steps: a word for each rank, twice a number and one more if it is
-- final. The partial sums are libcircle's (SC 2012); the seats' knowledge of other words is our own.
use Rattle.std.specs.Prelude.{All, ◌≡◌, ℕ, ◌+◌, ◌<◌, ◌≤◌, ◌⊎◌, Bool, true, false, List, [], ◌∷◌, ◌++◌, length, map, slice_index, slice_index_or, replicate}
use Rattle.std.specs.List.{range_with_len, sum_by}
use mathlib.Core.Option.{some}
use lib.ListN.{get_elem?}
use Rattle.atomic_table.specs.Table.{State}
use Rattle.sum_tree.specs.Tree.{children}
use Rattle.sum_tree.specs.Told.{SumTold, Sound}
use Rattle.sum_tree.specs.Plain.{Rule as PlainRule}
use Rattle.sum_tree.specs.Steps.{coded}
use Rattle.sum_tree.specs.declared.ranks.RankSum.{RankSum}
use Rattle.sum_tree.specs.declared.tree_views.Known.{Known}
use Rattle.sum_tree.specs.declared.tree_views.View.{View}

abbrev pub TableState : Type 0
TableState = State (Unit {0}) View

-- the number last read in the word of the rank c, and whether it was final; 0 and not final if it was never read
abbrev pub seen_of : Known → ℕ → ℕ
seen_of v c = slice_index_or v.seen c 0

abbrev pub final_of : Known → ℕ → Bool
final_of v c = slice_index_or v.finals c false

-- the numbers last read in the words of the children, together
abbrev pub below : Known → ℕ
below v = sum_by (seen_of v) (children v.n v.width v.number)

-- the told count and word of a rank whose seat knows this: its count is the one of its last store
abbrev pub row_of : Known → RankSum
row_of v = record { count = v.count; word = v.word; is_final = v.is_final }

-- the told counts and words of n ranks whose seats know this
abbrev pub told_of : ℕ → ℕ → (ℕ → Known) → SumTold
told_of n width known = record { width = width; ranks = map (λ r. row_of (known r)) (range_with_len 0 n) }

-- all facts of the words and of the seats' knowledge
pub record Moment (n width : ℕ) (known : ℕ → Known) (ws : List ℕ) : Type 0 where
  -- each seat knows its rank, the number of ranks and the width of the tree, and keeps lists of that many ranks
  pub named : (r : ℕ) → r < n → ((known r).number ≡ r) × ((known r).n ≡ n) × ((known r).width ≡ width)
  pub sized : (r : ℕ) → r < n → (length (known r).seen ≡ n) × (length (known r).finals ≡ n)
  -- a rank alone writes its word, so its seat knows the number in it
  pub words : (r : ℕ) → r < n → slice_index ws r ≡ coded (known r).word (known r).is_final
  -- the told numbers keep the bounds of plain sums, and partial sums are never too high
  pub rule : PlainRule (told_of n width known)
  pub sound : Sound (told_of n width known)
  -- a word never falls below a number that was seen in it
  pub seen : (r c : ℕ) → r < n → c < n → seen_of (known r) c ≤ (known c).word
  -- a word that was seen final stays as it was seen
  pub finals : (r c : ℕ) → r < n → c < n → final_of (known r) c ≡ true
      → ((known c).is_final ≡ true) × (seen_of (known r) c ≡ (known c).word)
  -- a word holds at most the own count and the numbers that were seen below
  pub low : (r : ℕ) → r < n → (known r).word ≤ (known r).count + below (known r)

-- the knowledge of the seat of the rank i at first, of n ranks
abbrev pub fresh : ℕ → ℕ → ℕ → Known
fresh n width i =
    record {
      number = i;
      n = n;
      width = width;
      count = 0;
      word = 0;
      is_final = false;
      seen = replicate n 0;
      finals = replicate n false;
      readings = [];
    }

-- the first seat, from which the others are made
abbrev pub opened : ℕ → ℕ → View
opened n width = record { made = 1; own = fresh n width 0; kept = []; live = true }

-- a seat that was taken in: its rank keeps its knowledge, and the seat is spent
abbrev pub KeptIn : ℕ → (ℕ → Known) → List View → Known → Type 0
KeptIn n known views x =
    (x.number < n) × (known x.number ≡ x) × ((u : View) × (get_elem? views x.number ≡ some u) × (u.live ≡ false))

-- the rule
pub record Rule (n width : ℕ) (s : TableState) : Type 0 where
  -- the knowledge of each rank's seat; a rank whose seat is not made yet has the knowledge of a fresh one
  pub known : ℕ → Known
  pub wide : length s.words ≡ n
  pub seated : (k : ℕ) (v : View) → get_elem? s.views k ≡ some v → v.live ≡ true → (k < n) × (known k ≡ v.own)
  -- the knowledge that a seat took in is still that of its rank, whose own seat is spent
  pub kept : (k : ℕ) (v : View) → get_elem? s.views k ≡ some v → All (KeptIn n known s.views) v.kept
  -- the first seat alone can make others, and has made all that there are
  pub dealt : (k : ℕ) (v : View) → get_elem? s.views k ≡ some v → (v.made ≡ 0) ⊎ ((k ≡ 0) × (v.made ≡ length s.views))
  pub unmade : (r : ℕ) → length s.views ≤ r → known r ≡ fresh n width r
  pub moment : Moment n width known s.words

-- a seat that makes the next one
abbrev pub dealing : View → View
dealing v = record v { made = v.made + 1 }

-- the seat that is made
abbrev pub dealt_out : View → View
dealt_out v = record { made = 0; own = fresh v.own.n v.own.width v.made; kept = []; live = true }

-- a seat that takes another one in, and the other one, which is spent
abbrev pub both : View → View → View
both v w = record v { kept = v.kept ++ w.own ∷ w.kept }

abbrev pub spent : View
spent = record { made = 0; own = fresh 0 0 0; kept = []; live = false }
