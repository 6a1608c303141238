-- Counts of several readers that read together, and then of the first one, which goes on.
use Rattle.shared_reads.proofs.Prelude.{◌≡◌, ℕ, ◌+◌, ◌-◌, ◌^◌, ◌<◌, ◌≤◌, false, ◌||◌, List, [], ◌∷◌, length, map, get_or, set, refl, ap, ◌∙◌, arith, Option}
use Rattle.shared_reads.proofs.Prelude.{sum, leb-false, or_parts, nat_tests, length-map, sum_by-cons, RoseBy, Files, NoneFell, RoseTogether, KeepsUp, KeepUp}
use Rattle.shared_reads.proofs.Prelude.{is_at_end}
use Rattle.std.proofs.Common.{nat_le}

pub fell_same : (counts : List ℕ) → NoneFell counts counts
fell_same [] = tt
fell_same (n ∷ counts) = (omega arith, fell_same counts)

pub fell_fell : (a b c : List ℕ) → NoneFell a b → NoneFell b c → NoneFell a c
fell_fell [] [] [] h g = tt
fell_fell [] [] (z ∷ c) h g = absurd g
fell_fell [] (y ∷ b) c h g = absurd h
fell_fell (x ∷ a) [] c h g = absurd h
fell_fell (x ∷ a) (y ∷ b) [] h g = absurd g
fell_fell (x ∷ a) (y ∷ b) (z ∷ c) h g = let p = h.0 in let q = g.0 in (omega arith, fell_fell a b c h.1 g.1)

-- a count at its end stays there
pub end_stays : (b c : List ℕ) → NoneFell b c → is_at_end c ≡ false → is_at_end b ≡ false
end_stays [] [] h e = refl
end_stays [] (z ∷ c) h e = absurd h
end_stays (y ∷ b) [] h e = absurd h
end_stays (y ∷ b) (z ∷ c) h e =
    let g = or_parts (nat_le (2 ^ 64 - 1) z) (is_at_end c) e in
    let low : nat_le (2 ^ 64 - 1) y ≡ false = below y z h.0 g.0 in
    ap (λ t. t || is_at_end b) low ∙ end_stays b c h.1 g.1
  where
    less : (m y z : ℕ) → y ≤ z → nat_le m z ≡ false → nat_le m y ≡ false
    less m y z h e = grind (arith, nat_tests)

    below : (y z : ℕ) → y ≤ z → nat_le (2 ^ 64 - 1) z ≡ false → nat_le (2 ^ 64 - 1) y ≡ false
    below y z h e = less (2 ^ 64 - 1) y z h e

below_end : (n : ℕ) (ns : List ℕ) → is_at_end (n ∷ ns) ≡ false → n < 2 ^ 64 - 1
below_end n ns e = leb-false (2 ^ 64 - 1) n (or_parts (nat_le (2 ^ 64 - 1) n) (is_at_end ns) e).0

first_fell : {A : Type 0} (f : A → ℕ) (xs : List A) (x y : A) → 0 < length xs → f (get_or xs 0 x) ≤ f y → NoneFell (map f xs) (map f (set xs 0 y))
first_fell f [] x y h l = absurd (omega arith)
first_fell f (z ∷ xs) x y h l = (l, fell_same (map f xs))

first_kept : {A : Type 0} (f : A → ℕ) (b a : ℕ) (xs : List A) (x y : A) → 0 < length xs → KeepsUp b a (f (get_or xs 0 x)) (f y) →
    KeepUp b a (map f xs) (map f (set xs 0 y))
first_kept f b a [] x y h k = absurd (omega arith)
first_kept f b a (z ∷ xs) x y h k = λ e.
    let r = k.rose (below_end (f y) (map f xs) e) in
    omega (arith, r, sum_by-cons (λ (n : ℕ). n) (f z) (map f xs), sum_by-cons (λ (n : ℕ). n) (f y) (map f xs))

sum_grows : (a b : List ℕ) → NoneFell a b → sum a ≤ sum b
sum_grows [] [] h = omega arith
sum_grows [] (y ∷ b) h = absurd h
sum_grows (x ∷ a) [] h = absurd h
sum_grows (x ∷ a) (y ∷ b) h =
    omega (arith, h.0, sum_grows a b h.1, sum_by-cons (λ (n : ℕ). n) x a, sum_by-cons (λ (n : ℕ). n) y b)

-- no fault is told
pub rose_none : (k : ℕ) (a b : List ℕ) → k ≡ 0 → NoneFell a b → RoseTogether k a b
rose_none k a b none fell = λ e. omega (arith, none, sum_grows a b fell)

-- one part after the other
pub kept_on : (n : ℕ) (x y z : List ℕ) (m : ℕ) → RoseTogether m x y → KeepUp m n y z → NoneFell y z → RoseTogether n x z
kept_on n x y z m f g fell = λ e. let s = g e in let r = f (end_stays y z fell e) in omega arith

-- several readers read together, and then the first one
module _ {R : Type 0} (count : R → ℕ) (readers others : List R) (x y : R) (some : 0 < length others)
    (fell : NoneFell (map count readers) (map count others)) (kept : count (get_or others 0 x) ≤ count y) where
  pub then_fell : NoneFell (map count readers) (map count (set others 0 y))
  then_fell = fell_fell (map count readers) (map count others) (map count (set others 0 y)) fell (first_fell count others x y some kept)

  pub then_kept : (b a h : ℕ) → RoseTogether h (map count readers) (map count others) → KeepsUp (b + h) a (count (get_or others 0 x)) (count y) →
      KeepUp b a (map count readers) (map count (set others 0 y))
  then_kept b a h rose k = λ e.
      let last = first_kept count (b + h) a others x y some k e in
      let first = rose (end_stays (map count others) (map count (set others 0 y)) (first_fell count others x y some kept) e) in
      omega arith

  -- where none was told before
  pub then_rose : (a h : ℕ) → RoseTogether h (map count readers) (map count others) → KeepsUp h a (count (get_or others 0 x)) (count y) →
      RoseTogether a (map count readers) (map count (set others 0 y))
  then_rose a h rose k = λ e.
      let last = first_kept count h a others x y some k e in
      let first = rose (end_stays (map count others) (map count (set others 0 y)) (first_fell count others x y some kept) e) in
      omega arith

pub first_same : {A B : Type 0} (f : A → B) (xs : List A) (x y : A) → 0 < length xs → f y ≡ f (get_or xs 0 x) → map f (set xs 0 y) ≡ map f xs
first_same f [] x y h e = absurd (omega arith)
first_same f (z ∷ xs) x y h e = ap (λ b. b ∷ map f xs) e

pub still_some : {R : Type 0} (tree : R → Option Files) (readers others : List R) → map tree others ≡ map tree readers → 0 < length readers → 0 < length others
still_some tree readers others e some = omega (arith, some, ap (λ (ts : List (Option Files)). length ts) e, length-map readers tree, length-map others tree)

-- ---- one count

pub keeps_still : (n c : ℕ) → KeepsUp n n c c
keeps_still n c = record { kept = omega arith; rose = λ h. omega arith }

pub keeps_on : (a b c x y z : ℕ) → KeepsUp a b x y → KeepsUp b c y z → KeepsUp a c x z
keeps_on a b c x y z f g = record {
  kept = omega (arith, f.kept, g.kept);
  rose = λ below. let s = g.rose below in let r = f.rose (omega (arith, below, g.kept)) in omega (arith, r, s);
}

-- an outcome is taken of what is kept, or another is read
pub kept_then : (b m n k h k' f x y z : ℕ) → KeepsUp b (m + k) x y → h + k' ≤ k → KeepsUp h f y z → n ≤ m + f → KeepsUp b (n + k') x z
kept_then b m n k h k' f x y z was l step e = record {
  kept = omega (arith, was.kept, step.kept);
  rose = λ below. let s = step.rose below in let r = was.rose (omega (arith, below, step.kept)) in omega (arith, r, s, l, e);
}

pub kept_less : (b n k x y : ℕ) → KeepsUp b (n + k) x y → KeepsUp b n x y
kept_less b n k x y f = record { kept = f.kept; rose = λ below. let r = f.rose below in omega (arith, r) }

pub kept_first : (n old c : ℕ) → n ≡ 0 → KeepsUp old (n + old) c c
kept_first n old c e = record { kept = omega arith; rose = λ below. omega (arith, e) }

pub kept_rose : (n m a b : ℕ) → KeepsUp n m a b → RoseBy 0 a b
kept_rose n m a b k = record { kept = k.kept; rose = omega (arith, k.kept) }
