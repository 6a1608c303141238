-- Pairs that are due are apart, and each target stands in the destination, or is it.
use Rattle.tree_copy.proofs.Prelude.{◌≡◌, ℕ, Bool, true, false, ◌||◌, List, [], ◌∷◌, ◌++◌, map, get_or, None, refl, ap, ◌∙◌, sym, subst, cond, arith, All}
use Rattle.tree_copy.proofs.Prelude.{list_any, bytes_decides, false≢true, or_parts, get_or-map, length-map, All-map, list_any_at, is_within, refusal, joined}
use Rattle.tree_copy.proofs.Prelude.{base_of, parent_of, base_bare, parent_joined, within_root, is_root, Pair, overlap, target_in, PlacedAreApart}
use Rattle.tree_copy.proofs.Due.{are_due, targets_in, sources_in}
use Rattle.tree_copy.proofs.Overlaps.{meets, target, overlap_append}

-- ---- `/` overlaps every path

root_meets : (root dest : List ℕ) → is_root root ≡ true → refusal dest ≡ None → meets root dest ≡ true
root_meets root dest r h =
    ap (λ x. meets x dest) ((bytes_decides root (47 ∷ [])).0 r) ∙ over dest h
  where
    or_true : (a : Bool) → (a || true) ≡ true
    or_true true = refl
    or_true false = refl

    over : (dest : List ℕ) → refusal dest ≡ None → meets (47 ∷ []) dest ≡ true
    over dest h = ap (λ b. is_within (47 ∷ []) dest || b) (within_root dest h) ∙ or_true (is_within (47 ∷ []) dest)

-- ---- pairs that are due

-- no source overlaps a target
pub across : (xs ys : List (List ℕ)) → overlap (xs ++ ys) ≡ false → list_any (λ x. list_any (meets x) ys) xs ≡ false
across xs ys e = (or_parts _ _ (or_parts _ _ (sym (overlap_append xs ys) ∙ e)).1).0

root_off : (dest : List ℕ) (sources : List (List ℕ)) → refusal dest ≡ None → overlap (sources ++ map (target_in true dest) sources) ≡ false →
    All (λ source. is_root source ≡ false) sources
root_off dest sources h e k d l =
    let f = target_in true dest in
    let s = get_or sources k d in
    elim (is_root s) as (λ b. is_root s ≡ b → b ≡ false) [
      | true ↦ λ r.
          let at : get_or (map f sources) k dest ≡ dest = get_or-map f sources k d dest l ∙ ap (λ b. cond b dest (joined dest (base_of s))) r in
          let meet : meets s (get_or (map f sources) k dest) ≡ true = ap (meets s) at ∙ root_meets s dest r h in
          let inner : list_any (meets s) (map f sources) ≡ true = list_any_at (meets s) (map f sources) k dest (omega (arith, l, length-map sources f)) meet in
          let outer = list_any_at (λ x. list_any (meets x) (map f sources)) sources k d l inner in
          absurd (false≢true (sym (across sources (map f sources) e) ∙ outer))
      | false ↦ λ r. refl
    ] refl

abbrev Stands : Bool → List ℕ → List ℕ → Type 0
Stands in_dir dest to = cond in_dir (parent_of to) to ≡ dest

stand : (in_dir : Bool) (dest : List ℕ) (sources : List (List ℕ)) → refusal dest ≡ None →
    overlap (sources ++ map (target_in in_dir dest) sources) ≡ false → All (λ source. Stands in_dir dest (target_in in_dir dest source)) sources
stand false dest sources h e k d l = refl
stand true dest sources h e k d l =
    let s = get_or sources k d in
    ap (λ b. parent_of (cond b dest (joined dest (base_of s)))) (root_off dest sources h e k d l) ∙ parent_joined dest (base_of s) h (base_bare s)

pub placed_are_apart : PlacedAreApart
placed_are_apart in_dir over_dir dest sources pairs h e =
    let due = are_due in_dir over_dir dest sources pairs e in
    let f : List ℕ → Pair = λ s. record { source = s; target = target_in in_dir dest s } in
    let targets = ap (map target) due.are ∙ targets_in in_dir dest sources in
    let apart : overlap (sources ++ map (target_in in_dir dest) sources) ≡ false = ap (λ ts. overlap (sources ++ ts)) (sym targets) ∙ due.apart in
    let are_sources : map (λ (pair : Pair). pair.source) pairs ≡ sources = ap (map (λ (pair : Pair). pair.source)) due.are ∙ sources_in in_dir dest sources in
    record {
      apart = ap (λ ss. overlap (ss ++ map target pairs)) are_sources ∙ due.apart;
      stand = subst (All (λ (pair : Pair). Stands in_dir dest pair.target)) (sym due.are)
          (All-map (λ (pair : Pair). Stands in_dir dest pair.target) f sources (stand in_dir dest sources h apart));
      some_dir = due.some_dir;
    }
