-- Which strings that a checkpoint leaves can't stand beside its done entries and beside each other. Our own.
use Rattle.std.specs.Prelude.{◌≡◌, ℕ, Bool, true, false, not, ◌&&◌, ◌||◌, List, ◌∷◌, ◌++◌, length, All, nat_lt}
use Rattle.std.specs.List.{flat_map, list_any, count_by}
use Rattle.outside.specs.declared.trees.Kind.TheVariants as kind
use Rattle.entry_pages.specs.declared.entries.Entry.{Entry}
use Rattle.entry_pages.specs.Entries.{is_of, is_fine}
use Rattle.tree_walk.specs.Roots.{is_in}

-- the paths under it may still be left: a directory whose names were listed
abbrev pub is_open : Entry → Bool
is_open e = is_fine e.mark && is_of kind.Dir e.stat

-- the path cannot be left if this entry is done: the entry is at it or under it, or it is under the entry, which is closed
abbrev pub clashes : List ℕ → Entry → Bool
clashes path e = is_in e.path path || (is_in path e.path && not (is_open e))

-- a left string is misplaced if it clashes with a done entry, or if it is equal to or under another left one. Then two or more are
-- at it or above it
abbrev pub is_misplaced : List Entry → List (List ℕ) → List ℕ → Bool
is_misplaced done left path = list_any (clashes path) done || nat_lt 1 (count_by (is_in path) left)

-- no left string is misplaced
abbrev pub ArePlaced : List Entry → List (List ℕ) → Type 0
ArePlaced done left = All (λ path. is_misplaced done left path ≡ false) left

-- of the lists of the ranks, the first string that is misplaced stands at this place of this rank's list
pub record IsFirstMisplaced (done : List Entry) (lists : List (List (List ℕ))) (rank place : ℕ) : Type 0 where
  -- the lists before
  pub earlier : List (List (List ℕ))
  -- the strings before it in its own list
  pub before : List (List ℕ)
  pub path : List ℕ
  pub behind : List (List ℕ)
  pub later : List (List (List ℕ))
  pub are : lists ≡ earlier ++ (before ++ path ∷ behind) ∷ later
  pub at : (rank ≡ length earlier) × (place ≡ length before)
  pub misplaced : is_misplaced done (flat_map (λ l. l) lists) path ≡ true
  pub first : All (λ q. is_misplaced done (flat_map (λ l. l) lists) q ≡ false) (flat_map (λ l. l) earlier ++ before)
