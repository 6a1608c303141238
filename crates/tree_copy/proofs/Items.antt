-- The items of entries, one by one.
use Rattle.tree_copy.proofs.Prelude.{◌≡◌, ℕ, Bool, true, false, cond, List, [], ◌∷◌, map, length, Option, Some, None, refl, ap, ◌∙◌, sym, subst, is_some, not}
use Rattle.tree_copy.proofs.Prelude.{slice_get, get_or, ◌<◌, slice_get_read, nat_le, All, filter, list_any, below_of, grafted, is_within, Entry, Item, Pair}
use Rattle.tree_copy.proofs.Prelude.{ends_of, target_of, treated, overlap, IsPair, has_room, item_of, items_of}
use Rattle.std.specs.Prelude.{IfSome}
use Rattle.tree_copy.proofs.Ends.{Fine, all_at, target_by}

-- the item of an entry that has one
abbrev pub items_at : Option (List ℕ) → Entry → List Item
items_at None e = []
items_at (Some path) e = record { path = path; entry = e } ∷ []

abbrev pub short_target : Pair → List ℕ → Option (List ℕ)
short_target p x = cond (nat_le (length (grafted p.target (below_of x p.source))) 4095) (Some (grafted p.target (below_of x p.source))) None

-- an entry with a stat at the target that its pair gives
pub record Added (pairs : List Pair) (e : Entry) (target : Option (List ℕ)) : Type 0 where
  pub items : items_of pairs (e ∷ []) ≡ items_at target e
  pub fits : map (has_room pairs) (treated (e ∷ [])) ≡ is_some target ∷ []

by_room : (pairs : List Pair) (e : Entry) (b : Bool) (target : Option (List ℕ)) → target ≡ cond b (Some (target_of pairs e.path)) None →
    (map (item_of pairs) (cond b (e ∷ []) []) ≡ items_at target e) × (b ≡ is_some target)
by_room pairs e true target is = (ap (λ t. items_at t e) (sym is), ap is_some (sym is))
by_room pairs e false target is = (ap (λ t. items_at t e) (sym is), ap is_some (sym is))

pub added : (pairs : List Pair) → Fine pairs → (e : Entry) → is_some e.stat ≡ true → (k : ℕ) (p : Pair) → slice_get pairs k ≡ Some p →
    is_within e.path p.source ≡ true →
    (target : Option (List ℕ)) → target ≡ short_target p e.path → Added pairs e target
added pairs f e has k p at within target is =
    let t = target_by pairs f e.path k p at within in
    let alone : treated (e ∷ []) ≡ e ∷ [] = ap (λ b. cond b (e ∷ []) []) has in
    let by = by_room pairs e (has_room pairs e) target (is ∙ ap (λ r. cond (nat_le (length r) 4095) (Some r) None) (sym t)) in
    record {
      items = ap (λ es. map (item_of pairs) (filter (has_room pairs) es)) alone ∙ by.0;
      fits = ap (map (has_room pairs)) alone ∙ ap (λ b. b ∷ []) by.1;
    }

-- what the code knows of the entry and of its pair
pub record IsFound (pairs : List Pair) (e : Entry) (none : Bool) (k : ℕ) (p : Pair) : Type 0 where
  pub apart : overlap (ends_of pairs) ≡ false
  pub valid : All IsPair pairs
  pub off : none ≡ false
  pub is_none : is_some e.stat ≡ not none
  pub inside : k < length pairs
  pub read : p ≡ get_or pairs k p
  pub within : IfSome (slice_get pairs k) (λ pair. is_within e.path pair.source ≡ true)

pub found : (pairs : List Pair) (e : Entry) (none : Bool) (k : ℕ) (p : Pair) → overlap (ends_of pairs) ≡ false → All IsPair pairs → none ≡ false →
    is_some e.stat ≡ not none → k < length pairs → p ≡ get_or pairs k p → IfSome (slice_get pairs k) (λ pair. is_within e.path pair.source ≡ true) →
    IsFound pairs e none k p
found pairs e none k p apart valid off is_none inside read within =
    record { apart = apart; valid = valid; off = off; is_none = is_none; inside = inside; read = read; within = within }

pub added_by : (pairs : List Pair) (e : Entry) (none : Bool) (k : ℕ) (p : Pair) → IsFound pairs e none k p → (target : Option (List ℕ)) →
    target ≡ short_target p e.path → Added pairs e target
added_by pairs e none k p f target is =
    let at = slice_get_read pairs (length pairs) k p refl f.inside f.read in
    added pairs (record { apart = f.apart; valid = f.valid }) e (f.is_none ∙ ap not f.off) k p at
    (subst (λ o. IfSome o (λ (pair : Pair). is_within e.path pair.source ≡ true)) at f.within) target is

-- the entries one after the other

-- an entry of a list that is known under another name
pub source_of : (pairs : List Pair) (list same : List Entry) → same ≡ list → All (λ e. list_any (λ pair. is_within e.path pair.source) pairs ≡ true) list →
    (k : ℕ) (e : Entry) → slice_get same k ≡ Some e → list_any (λ pair. is_within e.path pair.source) pairs ≡ true
source_of pairs list same is h k e at =
    all_at (λ (e : Entry). list_any (λ (pair : Pair). is_within e.path pair.source) pairs ≡ true) list h k e (ap (λ l. slice_get l k) (sym is) ∙ at)
