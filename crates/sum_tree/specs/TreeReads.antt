-- The words of children that a seat has read one after the other. Our own. Private clauses alone cite this.
use Rattle.std.specs.Prelude.{◌≡◌, ℕ, ◌+◌, ◌-◌, ◌*◌, ◌<◌, ◌≤◌, min, true, false, List, [], ◌∷◌, ◌++◌}
use Rattle.std.specs.List.{sum_by, list_all, range_with_len}
use Rattle.sum_tree.specs.Steps.{Reads, number_read, is_final_read}
use Rattle.sum_tree.specs.declared.ranks.Reading.{Reading}
use Rattle.sum_tree.specs.TreeRule.{seen_of, final_of}
use Rattle.sum_tree.specs.declared.tree_views.Known.{Known}

-- the words of these ranks were loaded, in this order; the seat's other knowledge stays
pub record Loaded (v : Known) (ranks : List ℕ) (w : Known) : Type 0 where
  pub loads : List Reading
  pub read : Reads ranks loads
  pub seen : sum_by number_read loads ≡ sum_by (seen_of w) ranks
  pub are : w.readings ≡ v.readings ++ loads
  pub same : record w { seen = v.seen; finals = v.finals; readings = v.readings } ≡ v

-- k words from a on, and each read final
pub record LoadedFinal (v : Known) (a k : ℕ) (w : Known) : Type 0 where
  pub loaded : Loaded v (range_with_len a k) w
  pub reads : list_all is_final_read loaded.loads ≡ true
  pub all : (c : ℕ) → a ≤ c → c < a + k → final_of w c ≡ true

-- the words of all children of the rank r were loaded, and each read final
abbrev pub ChildrenFinal : ℕ → ℕ → ℕ → Known → Known → Type 0
ChildrenFinal n width r v w = LoadedFinal v (r * width + 1) (min width (n - (r * width + 1))) w

-- each child of the rank r was last read final
abbrev pub AreFinalBelow : ℕ → ℕ → ℕ → Known → Type 0
AreFinalBelow n width r v =
    (c : ℕ) → r * width + 1 ≤ c → c < r * width + 1 + min width (n - (r * width + 1)) → final_of v c ≡ true

-- the words of these ranks were loaded up to the first that did not read final
pub record Blocked (v : Known) (ranks : List ℕ) (w : Known) : Type 0 where
  pub front : List ℕ
  pub rest : List ℕ
  pub in_order : front ++ rest ≡ ranks
  pub loads : List Reading
  pub last : Reading
  pub read : Reads front (loads ++ last ∷ [])
  pub reads : list_all is_final_read loads ≡ true
  pub blocked : is_final_read last ≡ false
  pub are : w.readings ≡ v.readings ++ (loads ++ last ∷ [])
