-- Where nothing stands against the copy of any entry, and none failed, every entry comes to `Done`.
use Rattle.tree_copy.proofs.Prelude.{◌≡◌, ◌⊎◌, inl, inr, ⊎_elim, ℕ, zero, suc, ◌+◌, ◌-◌, ◌<◌, ◌≤◌, true, false, not, cond, ◌||◌, ◌&&◌, List, [], ◌∷◌, ◌++◌}
use Rattle.tree_copy.proofs.Prelude.{length, map, take, drop, Some, None, refl, ap, ◌∙◌, sym, subst, arith, nat_eq, length-append, length-take, false≢true}
use Rattle.tree_copy.proofs.Prelude.{All-from_recursion, recursion_from_All, ◌==◌, AllByRecursion, zip, before_last, suffix_len, pointwise, bytes_decides}
use Rattle.tree_copy.proofs.Prelude.{grafted, below_of, is_within, is_slash, parent_of, joined, parent_some, Files, all_weaker, Entry, paths, is_failed}
use Rattle.tree_copy.proofs.Prelude.{is_done, Fate, unfailed, IsCopied, due, is_untold, or_else, parent_failed, target_of, treated, FineEntriesAreCopied}
use Rattle.tree_copy.proofs.Prelude.{IsFineEntry, Pair}
use Rattle.level_work.specs.declared.items.Fate.TheVariants as fate
use Rattle.tree_copy.proofs.Comes.{within}

abbrev Row : Type 0
Row = List ℕ × Fate

-- ---- a parent's path is `/`, or shorter

root_or : (n : ℕ) (before : List ℕ) → length before < n → 1 < length (cond (length before == 0) (47 ∷ []) before) →
    length (cond (length before == 0) (47 ∷ []) before) < n
root_or n before l = elim (length before == 0) as (λ b. 1 < length (cond b (47 ∷ []) before) → length (cond b (47 ∷ []) before) < n)
    [ true ↦ λ long. absurd (omega (arith, long)) | false ↦ λ _. l ]

before_short : (k : ℕ) (t : List ℕ) → 0 < length t → length (take (length t - k - 1) t) < length t
before_short k t some = omega (arith, length-take (length t - k - 1) t, some)

shorter : (t : List ℕ) → 1 < length (parent_of t) → length (parent_of t) < length t
shorter [] long = absurd (omega (arith, long))
shorter (b ∷ t) long = root_or (length (b ∷ t)) (before_last is_slash (b ∷ t))
    (before_short (suffix_len (λ x. not (is_slash x)) (b ∷ t)) (b ∷ t) (omega arith)) long

-- ---- a target is long, where all targets of sources are

joined_long : (t n : List ℕ) → length t ≤ length (joined t n)
joined_long t n = elim (length t == 1) as (λ b. length t ≤ length (cond b (t ++ n) (t ++ 47 ∷ n)))
    [ true ↦ omega (arith, length-append t n) | false ↦ omega (arith, length-append t (47 ∷ n)) ]

grafted_long : (t rest : List ℕ) → length t ≤ length (grafted t rest)
grafted_long t rest = elim (length rest == 1) as (λ b. length t ≤ length (cond b t (joined t (drop 1 rest))))
    [ true ↦ omega arith | false ↦ joined_long t (drop 1 rest) ]

abbrev IsLong : Pair → Type 0
IsLong pair = 1 < length pair.target

long_target : (pairs : List Pair) (p : List ℕ) → AllByRecursion IsLong pairs → (length (target_of pairs p) ≡ 0) ⊎ (1 < length (target_of pairs p))
long_target [] p h = inl refl
long_target (pair ∷ pairs) p h =
    elim (is_within p pair.source) as (λ b. (length (cond b (grafted pair.target (below_of p pair.source)) (target_of pairs p)) ≡ 0)
    ⊎ (1 < length (cond b (grafted pair.target (below_of p pair.source)) (target_of pairs p)))) [
      | true ↦ inr (omega (arith, h.0, grafted_long pair.target (below_of p pair.source)))
      | false ↦ long_target pairs p h.1
    ]

-- ---- one entry

due_done : (files : Files) (pairs : List Pair) (rows : List Row) (e : Entry) → IsFineEntry files pairs e → is_untold e ≡ false →
    parent_failed pairs rows (target_of pairs e.path) ≡ false →
    due files pairs rows e ≡ fate.Done
due_done files pairs rows e f known none =
    λ i. or_else (cond (within (length (target_of pairs e.path)) f.short i) (Some fate.TooLong)
    (cond (none i) (Some fate.ParentFailed) (cond (f.kind i) (Some fate.Skipped) None)))
    (cond (f.free i) fate.Conflict (cond (known i) fate.Changed fate.Done))

-- a row is done that stands at this path
abbrev IsDoneAt : List Pair → List ℕ → Row → Type 0
IsDoneAt pairs q row = target_of pairs row.0 ≡ q → row.1 ≡ fate.Done

none_failed : (pairs : List Pair) (t : List ℕ) (rows : List Row) → AllByRecursion (IsDoneAt pairs (parent_of t)) rows → parent_failed pairs rows t ≡ false
none_failed pairs t [] h = refl
none_failed pairs t (row ∷ rows) h =
    let here = pointwise nat_eq (target_of pairs row.0) (parent_of t) in
    elim here as (λ b. here ≡ b → ((b && not (is_done row.1)) || parent_failed pairs rows t) ≡ false) [
      | true ↦ λ is. (λ i. (true && not (is_done (h.0 ((bytes_decides (target_of pairs row.0) (parent_of t)).0 is) i))) || none_failed pairs t rows h.1 i)
      | false ↦ λ _. none_failed pairs t rows h.1
    ] refl

-- what is known of an entry with its row
record IsWell (files after : Files) (pairs : List Pair) (rows : List Row) (one : Entry × Row) : Type 0 where
  copied : IsCopied files after pairs rows one.0 one.1.1
  fine : IsFineEntry files pairs one.0
  known : is_untold one.0 ≡ false
  unfailed : is_failed one.1.1 ≡ false

one_done : (files after : Files) (pairs : List Pair) (rows : List Row) (one : Entry × Row) → IsWell files after pairs rows one →
    AllByRecursion (IsDoneAt pairs (parent_of (target_of pairs one.0.path))) rows → one.1.1 ≡ fate.Done
one_done files after pairs rows one w parents =
    ⊎_elim (λ is. is ∙ due_done files pairs rows one.0 w.fine w.known (none_failed pairs (target_of pairs one.0.path) rows parents))
    (λ failed. absurd (false≢true (sym w.unfailed ∙ ap is_failed failed.0))) w.copied.fate_of

-- ---- all of them, by the lengths of their targets

-- rows with a short target are done
abbrev IsDoneBelow : List Pair → ℕ → Row → Type 0
IsDoneBelow pairs n row = length (target_of pairs row.0) < n → row.1 ≡ fate.Done

heads : (x y : List ℕ) (xs ys : List (List ℕ)) → x ∷ xs ≡ y ∷ ys → (x ≡ y) × (xs ≡ ys)
heads x y xs ys e = (cc, cc)

no_rows : (x : List ℕ) (xs : List (List ℕ)) → x ∷ xs ≡ [] → ⊥
no_rows x xs e = cc

module _ (files after : Files) (pairs : List Pair) (rows : List Row) (long : AllByRecursion IsLong pairs) where
  parents : (n : ℕ) (t : List ℕ) → length t < suc n → (row : Row) → IsDoneBelow pairs n row → IsDoneAt pairs (parent_of t) row
  parents n t few row done is =
      let same : length (target_of pairs row.0) ≡ length (parent_of t) = ap length is in
      ⊎_elim (λ zero. absurd (omega (arith, zero, same, parent_some t)))
      (λ l. let less : length (parent_of t) < length t = shorter t (omega (arith, l, same)) in done (omega (arith, same, few, less)))
      (long_target pairs row.0 long)

  step : (n : ℕ) → AllByRecursion (IsDoneBelow pairs n) rows → (es : List Entry) (rs : List Row) → map (λ row. row.0) rs ≡ paths es →
      AllByRecursion (IsWell files after pairs rows) (zip es rs) → AllByRecursion (IsDoneBelow pairs (suc n)) rs
  step n below [] [] same w = tt
  step n below [] (r ∷ rs) same w = absurd (no_rows r.0 (map (λ row. row.0) rs) same)
  step n below (e ∷ es) [] same w = tt
  step n below (e ∷ es) (r ∷ rs) same w =
      let s = heads r.0 e.path (map (λ row. row.0) rs) (paths es) same in (
        λ few.
            let short : length (target_of pairs e.path) < suc n = subst (λ p. length (target_of pairs p) < suc n) s.0 few in
            one_done files after pairs rows (e, r) w.0
            (all_weaker (IsDoneBelow pairs n) (IsDoneAt pairs (parent_of (target_of pairs e.path))) (parents n (target_of pairs e.path) short) rows below),
        step n below es rs s.1 w.1,
      )

  all_below : (n : ℕ) (es : List Entry) → map (λ row. row.0) rows ≡ paths es → AllByRecursion (IsWell files after pairs rows) (zip es rows) →
      AllByRecursion (IsDoneBelow pairs n) rows
  all_below zero es same w = each rows
    where
      each : (rs : List Row) → AllByRecursion (IsDoneBelow pairs 0) rs
      each [] = tt
      each (r ∷ rs) = ((λ few. absurd (omega (arith, few))), each rs)
  all_below (suc n) es same w = step n (all_below n es same w) es rows same w

  -- no target is longer than this
  record Longest (rs : List Row) : Type 0 where
    bound : ℕ
    all : AllByRecursion (λ row. length (target_of pairs row.0) < bound) rs

  longest : (rs : List Row) → Longest rs
  longest [] = record { bound = 0; all = tt }
  longest (r ∷ rs) =
      let rest = longest rs in
      let n = length (target_of pairs r.0) in
      record {
        bound = n + 1 + rest.bound;
        all = (
          omega arith,
          all_weaker (λ row. length (target_of pairs row.0) < rest.bound) (λ row. length (target_of pairs row.0) < n + 1 + rest.bound)
              (λ row l. omega (arith, l)) rs rest.all,
        );
      }

  below_all : (n : ℕ) (rs : List Row) → AllByRecursion (IsDoneBelow pairs n) rs → AllByRecursion (λ row. length (target_of pairs row.0) < n) rs →
      AllByRecursion (λ row. row.1 ≡ fate.Done) rs
  below_all n [] h l = tt
  below_all n (r ∷ rs) h l = (h.0 l.0, below_all n rs h.1 l.1)

  all_done : (es : List Entry) → map (λ row. row.0) rows ≡ paths es → AllByRecursion (IsWell files after pairs rows) (zip es rows) →
      AllByRecursion (λ row. row.1 ≡ fate.Done) rows
  all_done es same w = let b = longest rows in below_all b.bound rows (all_below b.bound es same w) b.all

-- what is known of entries and of rows is known of both together
together : (files after : Files) (pairs : List Pair) (rows : List Row) (es : List Entry) (rs : List Row) →
    AllByRecursion (λ one. IsCopied files after pairs rows one.0 one.1.1) (zip es rs) → AllByRecursion (IsFineEntry files pairs) es →
    AllByRecursion (λ e. is_untold e ≡ false) es → AllByRecursion (λ row. is_failed row.1 ≡ false) rs →
    AllByRecursion (IsWell files after pairs rows) (zip es rs)
together files after pairs rows [] rs c f k u = tt
together files after pairs rows (e ∷ es) [] c f k u = tt
together files after pairs rows (e ∷ es) (r ∷ rs) c f k u =
    (record { copied = c.0; fine = f.0; known = k.0; unfailed = u.0 }, together files after pairs rows es rs c.1 f.1 k.1 u.1)

pub fine_entries_are_copied : FineEntriesAreCopied
fine_entries_are_copied list pairs rows before after long same copied fine known none =
    let es = treated list in
    let each = recursion_from_All (λ one. IsCopied before after pairs rows one.0 one.1.1) (zip es rows) copied.each in
    let well = together before after pairs rows es rows each (recursion_from_All (IsFineEntry before pairs) es fine)
    (recursion_from_All (λ (e : Entry). is_untold e ≡ false) es known) (unfailed rows none) in
    All-from_recursion (λ (row : Row). row.1 ≡ fate.Done) rows (all_done before after pairs rows (recursion_from_All IsLong pairs long) es same well)
