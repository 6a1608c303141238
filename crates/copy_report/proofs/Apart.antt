-- What stands apart: the sources of pairs, and where the paths within them go.
use Rattle.copy_report.proofs.Prelude.{◌≡◌, ◌⊎◌, inl, inr, ⊎_elim, ℕ, Bool, true, false, cond, ◌||◌, List, [], ◌∷◌, ◌++◌, None, refl, ap, ◌∙◌, sym, subst}
use Rattle.copy_report.proofs.Prelude.{false≢true, or_parts, AllByRecursion, list_any, refusal, parent_of, is_under, is_within, grafted, below_of}
use Rattle.copy_report.proofs.Prelude.{grafted_itself, parent_moves_too, parent_under, never_under_itself, same_or_under, under_no_root, under_within}
use Rattle.copy_report.proofs.Prelude.{within_up, is_root, target_of, overlap, Pair, In}

-- ---- what stands in a list of paths

pub in_front : (x : List ℕ) (xs ys : List (List ℕ)) → In x xs → In x (xs ++ ys)
in_front x [] ys i = absurd i
in_front x (z ∷ xs) ys i = ⊎_elim (λ e. inl e) (λ j. inr (in_front x xs ys j)) i

pub one_off : (f : List ℕ → Bool) (x : List ℕ) (xs : List (List ℕ)) → In x xs → list_any f xs ≡ false → f x ≡ false
one_off f x [] i e = absurd i
one_off f x (y ∷ ys) i e =
    let n = or_parts (f y) (list_any f ys) e in ⊎_elim (λ is. ap f is ∙ n.0) (λ j. one_off f x ys j n.1) i

-- of paths that do not overlap none is under another
pub none_under : (a b : List ℕ) (xs : List (List ℕ)) → overlap xs ≡ false → In a xs → In b xs → is_under a b ≡ true → ⊥
none_under a b [] off i j u = absurd i
none_under a b (x ∷ xs) off i j u =
    let n = or_parts (list_any (λ other. is_within x other || is_within other x) xs) (overlap xs) off in
    let within = under_within a b u in
    ⊎_elim
    (λ is. ⊎_elim
    (λ same. never_under_itself a (subst (λ y. is_under a y ≡ true) (same ∙ sym is) u))
    (λ later. false≢true (sym (or_parts (is_within x b) (is_within b x) (one_off (λ other. is_within x other || is_within other x) b xs later n.0)).0
    ∙ subst (λ y. is_within y b ≡ true) is within)) j)
    (λ later. ⊎_elim
    (λ same. false≢true (sym (or_parts (is_within x a) (is_within a x) (one_off (λ other. is_within x other || is_within other x) a xs later n.0)).1
    ∙ subst (λ y. is_within a y ≡ true) same within))
    (λ other. none_under a b xs n.1 later other u) j) i

-- ---- where a path goes

-- the path is a source, and goes to its target
pub record GoesFirst (P : Pair → Type 0) (pairs : List Pair) (p : List ℕ) : Type 0 where
  pub pair : Pair
  pub holds : P pair
  pub is : p ≡ pair.source
  pub goes : target_of pairs p ≡ pair.target

-- the path is under a source, and goes into the target of its parent
pub record GoesDeeper (P : Pair → Type 0) (pairs : List Pair) (p : List ℕ) : Type 0 where
  pub pair : Pair
  pub holds : P pair
  pub under : is_under p pair.source ≡ true
  pub lower : is_root p ≡ false
  pub goes : parent_of (target_of pairs p) ≡ target_of pairs (parent_of p)

abbrev pub AreValid : Pair → Type 0
AreValid pair = (refusal pair.source ≡ None) × (refusal pair.target ≡ None)

-- a path is under its parent, and so within all that its parent is within
within_parent : (p s : List ℕ) → refusal p ≡ None → is_root p ≡ false → is_within (parent_of p) s ≡ true → is_within p s ≡ true
within_parent p s v off w = within_up p (parent_of p) s (parent_under p v off) w

chosen : (pair : Pair) (pairs : List Pair) (p : List ℕ) → is_within p pair.source ≡ true →
    target_of (pair ∷ pairs) p ≡ grafted pair.target (below_of p pair.source)
chosen pair pairs p w = ap (λ b. cond b (grafted pair.target (below_of p pair.source)) (target_of pairs p)) w

passed : (pair : Pair) (pairs : List Pair) (p : List ℕ) → is_within p pair.source ≡ false → target_of (pair ∷ pairs) p ≡ target_of pairs p
passed pair pairs p w = ap (λ b. cond b (grafted pair.target (below_of p pair.source)) (target_of pairs p)) w

pub goes : (P : Pair → Type 0) (pairs : List Pair) (p : List ℕ) → refusal p ≡ None →
    AllByRecursion AreValid pairs → AllByRecursion P pairs → list_any (λ pair. is_within p pair.source) pairs ≡ true →
    GoesFirst P pairs p ⊎ GoesDeeper P pairs p
goes P [] p v valid holds e = absurd (false≢true e)
goes P (pair ∷ pairs) p v valid holds e =
    elim (is_within p pair.source) as (λ b. is_within p pair.source ≡ b → (b || list_any (λ pair. is_within p pair.source) pairs) ≡ true →
    GoesFirst P (pair ∷ pairs) p ⊎ GoesDeeper P (pair ∷ pairs) p) [
      | true ↦ λ w _. ⊎_elim (λ is. inl (at is w)) (λ u. inr (deeper u w)) (same_or_under p pair.source w)
      | false ↦ λ w more. ⊎_elim (λ f. inl (first w f)) (λ d. inr (later w d)) (goes P pairs p v valid.1 holds.1 more)
    ] refl e
  where
    at : p ≡ pair.source → is_within p pair.source ≡ true → GoesFirst P (pair ∷ pairs) p
    at is w = record {
      pair = pair;
      holds = holds.0;
      is = is;
      goes = chosen pair pairs p w ∙ ap (λ x. grafted pair.target (below_of x pair.source)) is ∙ grafted_itself pair.target pair.source;
    }

    deeper : is_under p pair.source ≡ true → is_within p pair.source ≡ true → GoesDeeper P (pair ∷ pairs) p
    deeper u w =
        record {
          pair = pair;
          holds = holds.0;
          under = u;
          lower = under_no_root p pair.source u;
          goes = ap parent_of (chosen pair pairs p w) ∙ parent_moves_too.moved p pair.source pair.target v valid.0.0 valid.0.1 u
              ∙ sym (chosen pair pairs (parent_of p) (parent_moves_too.within p pair.source v valid.0.0 u));
        }

    first : is_within p pair.source ≡ false → GoesFirst P pairs p → GoesFirst P (pair ∷ pairs) p
    first w f = record { pair = f.pair; holds = f.holds; is = f.is; goes = passed pair pairs p w ∙ f.goes }

    later : is_within p pair.source ≡ false → GoesDeeper P pairs p → GoesDeeper P (pair ∷ pairs) p
    later w d =
        let off : is_within (parent_of p) pair.source ≡ false = elim
        (is_within (parent_of p) pair.source) as (λ b. is_within (parent_of p) pair.source ≡ b → b ≡ false) [
          | true ↦ λ is. absurd (false≢true (sym w ∙ within_parent p pair.source v d.lower is))
          | false ↦ λ _. refl
        ] refl in
        record {
          pair = d.pair;
          holds = d.holds;
          under = d.under;
          lower = d.lower;
          goes = ap parent_of (passed pair pairs p w) ∙ d.goes ∙ sym (passed pair pairs (parent_of p) off);
        }
