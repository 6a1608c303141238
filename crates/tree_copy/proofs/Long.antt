-- No target is `/`.
use Rattle.tree_copy.proofs.Prelude.{◌≡◌, ℕ, ◌<◌, Bool, true, false, cond, ◌||◌, List, [], ◌∷◌, ◌++◌, map, length, get_or, None, refl, ap, ◌∙◌, sym, subst}
use Rattle.tree_copy.proofs.Prelude.{arith, false≢true, or_parts, get_or-map, length-map, All-map, list_any_at, slice_get-get_or, ◌==◌, All, list_any}
use Rattle.tree_copy.proofs.Prelude.{first_slash, within_root, is_within, refusal, joined, base_of, is_root, TargetsAreLong, overlap, target_in, Pair}
use Rattle.tree_copy.proofs.Apart.{across}
use Rattle.tree_copy.proofs.Due.{are_due, targets_in}
use Rattle.tree_copy.proofs.Ends.{own_apart}
use Rattle.tree_copy.proofs.Overlaps.{meets, target}

-- it begins with a slash
record Slashed (p : List ℕ) : Type 0 where
  rest : List ℕ
  is : p ≡ 47 ∷ rest

slashed : (p : List ℕ) → refusal p ≡ None → Slashed p
slashed [] v = absurd (cc)
slashed (b ∷ p) v = record { rest = p; is = ap (λ c. c ∷ p) (first_slash b p v) }

joined_slashed : (p name : List ℕ) → refusal p ≡ None → Slashed (joined p name)
joined_slashed [] name v = absurd (cc)
joined_slashed (b ∷ p) name v = elim (length (b ∷ p) == 1) as (λ c. Slashed (cond c ((b ∷ p) ++ name) ((b ∷ p) ++ 47 ∷ name))) [
  | true ↦ record { rest = p ++ name; is = ap (λ c. c ∷ (p ++ name)) (first_slash b p v) }
  | false ↦ record { rest = p ++ 47 ∷ name; is = ap (λ c. c ∷ (p ++ 47 ∷ name)) (first_slash b p v) }
]

target_slashed : (in_dir : Bool) (dest source : List ℕ) → refusal dest ≡ None → Slashed (target_in in_dir dest source)
target_slashed true dest source v = elim (is_root source) as (λ b. Slashed (cond b dest (joined dest (base_of source))))
    [ true ↦ slashed dest v | false ↦ joined_slashed dest (base_of source) v ]
target_slashed false dest source v = slashed dest v

-- what a path is not within is not `/`
longer : (s t : List ℕ) → refusal s ≡ None → is_within s t ≡ false → Slashed t → 1 < length t
longer s t v off r = by r.rest r.is
  where
    by : (rest : List ℕ) → t ≡ 47 ∷ rest → 1 < length t
    by [] is = absurd (false≢true (sym off ∙ ap (is_within s) is ∙ within_root s v))
    by (b ∷ rest) is = omega (arith, ap length is)

-- no source is within its own target
off_own : (in_dir : Bool) (dest : List ℕ) (sources : List (List ℕ)) → overlap (sources ++ map (target_in in_dir dest) sources) ≡ false →
    All (λ source. is_within source (target_in in_dir dest source) ≡ false) sources
off_own in_dir dest sources e k d l =
    let f = target_in in_dir dest in
    let s = get_or sources k d in
    elim (is_within s (f s)) as (λ b. is_within s (f s) ≡ b → b ≡ false) [
      | true ↦ λ w.
          let at : get_or (map f sources) k dest ≡ f s = get_or-map f sources k d dest l in
          let meet : meets s (get_or (map f sources) k dest) ≡ true = ap (meets s) at ∙ ap (λ b. b || is_within (f s) s) w in
          let inner : list_any (meets s) (map f sources) ≡ true = list_any_at (meets s) (map f sources) k dest (omega (arith, l, length-map sources f)) meet in
          let outer = list_any_at (λ x. list_any (meets x) (map f sources)) sources k d l inner in
          absurd (false≢true (sym (across sources (map f sources) e) ∙ outer))
      | false ↦ λ _. refl
    ] refl

pub targets_are_long : TargetsAreLong
targets_are_long = record {
  of_apart = λ pairs off valid k d l.
      let pair = get_or pairs k d in
      let own = own_apart pairs off k pair (slice_get-get_or pairs k d l) in
      longer pair.source pair.target (valid k d l).source (or_parts (is_within pair.source pair.target) (is_within pair.target pair.source) own).0
      (slashed pair.target (valid k d l).target);
  of_placed = λ in_dir over_dir dest sources pairs vd vs e.
      let due = are_due in_dir over_dir dest sources pairs e in
      let f : List ℕ → Pair = λ s. record { source = s; target = target_in in_dir dest s } in
      let targets = ap (map target) due.are ∙ targets_in in_dir dest sources in
      let apart : overlap (sources ++ map (target_in in_dir dest) sources) ≡ false = ap (λ ts. overlap (sources ++ ts)) (sym targets) ∙ due.apart in
      subst (All (λ (pair : Pair). 1 < length pair.target)) (sym due.are)
      (All-map (λ (pair : Pair). 1 < length pair.target) f sources
      (λ k d l. longer (get_or sources k d) (target_in in_dir dest (get_or sources k d)) (vs k d l) (off_own in_dir dest sources apart k d l)
      (target_slashed in_dir dest (get_or sources k d) vd)));
}
