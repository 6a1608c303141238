-- Turns of a loop over entries, and levels and pieces with one entry more.
use Rattle.flat_list.proofs.Prelude.{◌≡◌, ℕ, zero, suc, ◌+◌, ◌<◌, ◌≤◌, ◌%◌, Bool, true, false, cond, List, [], ◌∷◌, ◌++◌, length, map, set, take, get_or, max}
use Rattle.flat_list.proofs.Prelude.{refl, ap, sym, ◌∙◌, arith, eqb, take_more, take_all, map-append, map-id, map-set, get_or-map, length-map, length-take-le}
use Rattle.flat_list.proofs.Prelude.{map-range_with_len_more, length-map-range_with_len, get_or-map-range_with_len, range_with_len, nat_tests, level_of, Entry}
use Rattle.flat_list.proofs.Prelude.{level_count, places_from, places_at, dealt_from, dealt, eqb_same}

pub count_more : (xs : List Entry) (e : Entry) → level_count (xs ++ e ∷ []) ≡ max (level_count xs) (level_of e.path + 1)
count_more [] e = omega arith
count_more (x ∷ xs) e =
    let more : level_count (xs ++ e ∷ []) ≡ max (level_count xs) (level_of e.path + 1) = count_more xs e in
    omega arith

pub count_step : (xs : List Entry) (i : ℕ) (d : Entry) → i < length xs →
    level_count (take (i + 1) xs) ≡ max (level_count (take i xs)) (level_of (get_or xs i d).path + 1)
count_step xs i d lt = rw (take_more xs i d lt) (count_more (take i xs) (get_or xs i d))

-- a turn of a loop over a list: the place, and the element there
pub record Turn (xs : List Entry) (at : ℕ) (e : Entry) : Type 0 where
  pub within : at < length xs
  pub item : e ≡ get_or xs at e

pub taken : (xs : List Entry) (at : ℕ) (e : Entry) → Turn xs at e → take (at + 1) xs ≡ take at xs ++ e ∷ []
taken xs at e t = take_more xs at e t.within ∙ ap (λ y. take at xs ++ y ∷ []) (sym t.item)

passed : (xs : List Entry) (at : ℕ) (e : Entry) → Turn xs at e → length (take at xs) ≡ at
passed xs at e t = let lt = t.within in length-take-le at xs (omega arith)

-- the count after a turn
pub count_kept : {xs : List Entry} {at : ℕ} {e : Entry} → Turn xs at e → (count next : ℕ) → count ≡ level_count (take at xs) →
    next ≡ max count (level_of e.path + 1) → next ≡ level_count (take (at + 1) xs)
count_kept {xs} {at} {e} t count next counted then =
    let more = count_step xs at e t.within in
    let same : level_of e.path ≡ level_of (get_or xs at e).path = ap (λ (e : Entry). level_of e.path) t.item in
    omega arith

pub count_all : (xs : List Entry) (i : ℕ) → length xs ≤ i → level_count (take i xs) ≡ level_count xs
count_all xs i le = rw (take_all i xs le) refl

-- functions that agree from a on, listed
agree : {X : Type 0} (f g : ℕ → X) (a n : ℕ) → ((j : ℕ) → a ≤ j → g j ≡ f j) → map f (range_with_len a n) ≡ map g (range_with_len a n)
agree f g a zero h = refl
agree f g a (suc n) h =
    let first : g a ≡ f a = h a (omega arith) in
    let rest : map f (range_with_len (a + 1) n) ≡ map g (range_with_len (a + 1) n) = agree f g (a + 1) n (λ j le. h j (omega arith)) in
    cc

one_set : {X : Type 0} (f g : ℕ → X) (a n k b : ℕ) → k < n → a + k ≡ b → ((j : ℕ) → (j ≡ b → ⊥) → g j ≡ f j) →
    set (map f (range_with_len a n)) k (g b) ≡ map g (range_with_len a n)
one_set f g a zero k b lt is h = absurd (omega arith)
one_set f g a (suc n) zero b lt is h =
    let here : a ≡ b = omega arith in
    let rest : map f (range_with_len (a + 1) n) ≡ map g (range_with_len (a + 1) n) = agree f g (a + 1) n (λ j le. h j (λ e. omega arith)) in
    cc
one_set f g a (suc n) (suc k) b lt is h =
    let first : g a ≡ f a = h a (λ e. omega arith) in
    let rest : set (map f (range_with_len (a + 1) n)) k (g b) ≡ map g (range_with_len (a + 1) n) = one_set f g (a + 1) n k b (omega arith) (omega arith) h in
    cc

-- two functions differ at one number below n alone, where the second has a value
pub record Step {X : Type 0} (f g : ℕ → X) (n key : ℕ) (value : X) : Type 0 where
  pub below : key < n
  pub here : g key ≡ value
  pub others : (j : ℕ) → (j ≡ key → ⊥) → g j ≡ f j

step_set : {X : Type 0} {f g : ℕ → X} {n key : ℕ} {value : X} → Step f g n key value →
    set (map f (range_with_len 0 n)) key value ≡ map g (range_with_len 0 n)
step_set {X} {f} {g} {n} {key} {value} s =
    ap (set (map f (range_with_len 0 n)) key) (sym s.here) ∙ one_set f g 0 n key key s.below (omega arith) s.others

-- a list holds what a function lists, as something is read of each element, and has this element at one number
pub record Holds {X Y : Type 0} (f : ℕ → X) (read : Y → X) (n key : ℕ) (ys : List Y) (old : Y) : Type 0 where
  pub listed : map read ys ≡ map f (range_with_len 0 n)
  pub below : key < n
  pub is : old ≡ get_or ys key old

pub as_many : {X Y : Type 0} (f : ℕ → X) (read : Y → X) (ys : List Y) (n : ℕ) → map read ys ≡ map f (range_with_len 0 n) → length ys ≡ n
as_many f read ys n is = sym (length-map ys read) ∙ ap length is ∙ length-map-range_with_len f 0 n

held : {X Y : Type 0} {f : ℕ → X} {read : Y → X} {n key : ℕ} {ys : List Y} {old : Y} → Holds f read n key ys old → read old ≡ f key
held {X} {Y} {f} {read} {n} {key} {ys} {old} holds =
    let many = as_many f read ys n holds.listed in
    let lt = holds.below in
    ap read holds.is
    ∙ sym (get_or-map read ys key old (read old) (omega arith))
    ∙ ap (λ l. get_or l key (read old)) holds.listed
    ∙ get_or-map-range_with_len f 0 n key key (read old) lt (omega arith)

kept : {X Y : Type 0} {f g : ℕ → X} {read : Y → X} {n key : ℕ} {ys : List Y} {old : Y} → Holds f read n key ys old →
    (new : Y) → Step f g n key (read new) → map read (set ys key new) ≡ map g (range_with_len 0 n)
kept {X} {Y} {f} {g} {read} {n} {key} {ys} {old} holds new step =
    map-set read ys key new ∙ ap (λ l. set l key (read new)) holds.listed ∙ step_set step

-- a list that a test lengthens or leaves
abbrev pub with_if : {X : Type 0} → Bool → List X → X → List X
with_if true xs x = xs ++ x ∷ []
with_if false xs x = xs

-- what is put ahead or not, and what is put behind or not
ahead : {X : Type 0} (a b : Bool) (x : X) (xs : List X) (y : X) → cond a (x ∷ with_if b xs y) (with_if b xs y) ≡ with_if b (cond a (x ∷ xs) xs) y
ahead true true x xs y = refl
ahead true false x xs y = refl
ahead false true x xs y = refl
ahead false false x xs y = refl

places_more : (before level : ℕ) (xs : List Entry) (e : Entry) →
    places_from before level (xs ++ e ∷ []) ≡ with_if (eqb (level_of e.path) level) (places_from before level xs) (before + length xs)
places_more before level [] e =
    elim (eqb (level_of e.path) level) as (λ b. cond b (before ∷ []) [] ≡ with_if b [] (before + 0)) [
      | true ↦ let same : before + 0 ≡ before = omega arith in rw same refl
      | false ↦ refl
    ]
places_more before level (x ∷ xs) e =
    let rest = places_more (before + 1) level xs e in
    let same : (before + 1) + length xs ≡ before + suc (length xs) = omega arith in
    let ends = eqb (level_of e.path) level in
    rw (rest, same) (ahead (eqb (level_of x.path) level) ends before (places_from (before + 1) level xs) (before + suc (length xs)))

dealt_more : (before n j : ℕ) (xs : List Entry) (e : Entry) →
    dealt_from before n j (xs ++ e ∷ []) ≡ with_if (eqb ((before + length xs) % n) j) (dealt_from before n j xs) e
dealt_more before n j [] e =
    let same : before + 0 ≡ before = omega arith in
    rw same (elim (eqb (before % n) j) as (λ b. cond b (e ∷ []) [] ≡ with_if b [] e) [
      | true ↦ refl
      | false ↦ refl
    ])
dealt_more before n j (x ∷ xs) e =
    let rest = dealt_more (before + 1) n j xs e in
    let same : (before + 1) + length xs ≡ before + suc (length xs) = omega arith in
    rw (rest, same) (ahead (eqb (before % n) j) (eqb ((before + suc (length xs)) % n) j) x (dealt_from (before + 1) n j xs) e)

eqb_apart : (m n : ℕ) → (m ≡ n → ⊥) → eqb m n ≡ false
eqb_apart m n off = grind (arith, nat_tests)

-- one entry more is put where it belongs: the levels, and the pieces
level_put : (xs ys : List Entry) (e : Entry) (at level n : ℕ) → ys ≡ xs ++ e ∷ [] → length xs ≡ at → level_of e.path ≡ level → level < n →
    Step (λ k. places_at k xs) (λ k. places_at k ys) n level (places_at level xs ++ at ∷ [])
level_put xs ys e at level n more len is lt =
    let step = λ (k : ℕ). ap (places_at k) more ∙ places_more 0 k xs e in
    let here : eqb (level_of e.path) level ≡ true = ap (λ l. eqb l level) is ∙ eqb_same level in
    record {
      below = lt;
      here = step level ∙ ap (λ b. with_if b (places_at level xs) (0 + length xs)) here ∙ ap (λ n. places_at level xs ++ n ∷ []) (omega arith);
      others = λ j off. step j ∙ ap (λ b. with_if b (places_at j xs) (0 + length xs)) (eqb_apart (level_of e.path) j (λ same. off (sym same ∙ is)));
    }

piece_put : (xs ys : List Entry) (e : Entry) (at n : ℕ) → ys ≡ xs ++ e ∷ [] → length xs ≡ at → 0 < n →
    Step (λ j. dealt n j xs) (λ j. dealt n j ys) n (at % n) (dealt n (at % n) xs ++ e ∷ [])
piece_put xs ys e at n more len some =
    let step = λ (j : ℕ). ap (dealt n j) more ∙ dealt_more 0 n j xs e in
    let place : (0 + length xs) % n ≡ at % n = ap (λ k. k % n) (omega arith) in
    record {
      below = omega arith;
      here = step (at % n) ∙ ap (λ b. with_if b (dealt n (at % n) xs) e) (ap (λ k. eqb k (at % n)) place ∙ eqb_same (at % n));
      others = λ j off. step j ∙ ap (λ b. with_if b (dealt n j xs) e) (ap (λ k. eqb k j) place ∙ eqb_apart (at % n) j (λ same. off (sym same)));
    }

-- the same, as the loops have it
pub levels_kept : {Y : Type 0} {read : Y → List ℕ} {ys : List Y} {old : Y} {xs : List Entry} {at level n : ℕ} {e : Entry} → Turn xs at e →
    Holds (λ k. places_at k (take at xs)) read n level ys old → (new : Y) → level ≡ level_of e.path → read new ≡ read old ++ at ∷ [] →
    map read (set ys level new) ≡ map (λ k. places_at k (take (at + 1) xs)) (range_with_len 0 n)
levels_kept {Y} {read} {ys} {old} {xs} {at} {level} {n} {e} t holds new is now =
    let put = level_put (take at xs) (take (at + 1) xs) e at level n (taken xs at e t) (passed xs at e t) (sym is) holds.below in
    let value : read new ≡ places_at level (take at xs) ++ at ∷ [] = now ∙ ap (λ l. l ++ at ∷ []) (held holds) in
    kept holds new (record { below = put.below; here = put.here ∙ sym value; others = put.others })

pub pieces_kept : {ys : List (List Entry)} {old : List Entry} {xs : List Entry} {at n : ℕ} {e : Entry} → Turn xs at e →
    Holds (λ j. dealt n j (take at xs)) (λ y. y) n (at % n) ys old → (new : List Entry) → 0 < n → new ≡ old ++ e ∷ [] →
    set ys (at % n) new ≡ map (λ j. dealt n j (take (at + 1) xs)) (range_with_len 0 n)
pieces_kept {ys} {old} {xs} {at} {n} {e} t holds new some now =
    let put = piece_put (take at xs) (take (at + 1) xs) e at n (taken xs at e t) (passed xs at e t) some in
    let value : new ≡ dealt n (at % n) (take at xs) ++ e ∷ [] = now ∙ ap (λ l. l ++ e ∷ []) (held holds) in
    sym (map-id (set ys (at % n) new)) ∙ kept holds new (record { below = put.below; here = put.here ∙ sym value; others = put.others })

pub same_list : {X : Type 0} {ys zs : List X} → ys ≡ zs → map (λ y. y) ys ≡ zs
same_list {X} {ys} {zs} is = map-id ys ∙ is

pub below_here : {xs : List Entry} {at : ℕ} {e : Entry} → Turn xs at e → (level : ℕ) → level ≡ level_of e.path → level < level_count xs
below_here {xs} {at} {e} t level is =
    let below = below_count xs at e t.within in
    let same : level_of e.path ≡ level_of (get_or xs at e).path = ap (λ (e : Entry). level_of e.path) t.item in
    omega arith
  where
    below_count : (xs : List Entry) (i : ℕ) (d : Entry) → i < length xs → level_of (get_or xs i d).path < level_count xs
    below_count [] i d lt = absurd (omega arith)
    below_count (x ∷ xs) zero d lt = omega arith
    below_count (x ∷ xs) (suc i) d lt = let rest = below_count xs i d (omega arith) in omega arith

-- one more of what f lists
pub listed_more : {X Y : Type 0} (f : ℕ → X) (read : Y → X) (ys : List Y) (y : Y) (n : ℕ) → map read ys ≡ map f (range_with_len 0 n) →
    read y ≡ f n →
    map read (ys ++ y ∷ []) ≡ map f (range_with_len 0 (n + 1))
listed_more f read ys y n is new =
    let more : map f (range_with_len 0 (n + 1)) ≡ map f (range_with_len 0 n) ++ f n ∷ [] = map-range_with_len_more f 0 n n (omega arith) in
    let joined : map read (ys ++ y ∷ []) ≡ map read ys ++ read y ∷ [] = map-append read ys (y ∷ []) in
    cc

pub listed_same : {X : Type 0} (f : ℕ → X) (ys : List X) (y : X) (n : ℕ) → ys ≡ map f (range_with_len 0 n) → y ≡ f n →
    ys ++ y ∷ [] ≡ map f (range_with_len 0 (n + 1))
listed_same f ys y n is new =
    let more : map f (range_with_len 0 (n + 1)) ≡ map f (range_with_len 0 n) ++ f n ∷ [] = map-range_with_len_more f 0 n n (omega arith) in
    cc
