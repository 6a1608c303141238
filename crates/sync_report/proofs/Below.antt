-- Paths under others, below the tops of two sides.
use Rattle.sync_report.proofs.Prelude.{◌≡◌, ◌≢◌, ⊎_elim, ℕ, ◌<◌, List, [], ◌∷◌, ◌++◌, length, None, false, true, ◌||◌, refl, ap, ◌∙◌, sym, subst, arith}
use Rattle.sync_report.proofs.Prelude.{append_assoc, length-append, false≢true, or_parts, IsTrue, bytes_decides, below_of, grafted, front, is_under, is_within}
use Rattle.sync_report.proofs.Prelude.{refusal, begins, below_made, front_other, grafted_names, front-joined, some_front, IsUnder, is_under_by, names_under}
use Rattle.sync_report.proofs.Prelude.{same_or_under, under_within, within_root, within_up, is_root, overlap}
use Rattle.path_text.proofs.Moved.{below_top}

-- ---- two paths of which neither is within the other

pub record AreApart (s t : List ℕ) : Type 0 where
  pub first : is_within s t ≡ false
  pub second : is_within t s ≡ false

pub apart : (s t : List ℕ) → overlap (s ∷ t ∷ []) ≡ false → AreApart s t
apart s t off =
    let meets = or_parts (is_within s t || is_within t s) false (or_parts (is_within s t || is_within t s || false) (false || false) off).0 in
    let both = or_parts (is_within s t) (is_within t s) meets.0 in
    record { first = both.0; second = both.1 }

-- then the second is not `/`
pub not_root : (s t : List ℕ) → refusal s ≡ None → is_within s t ≡ false → is_root t ≡ false
not_root s t v off = elim (is_root t) as (λ b. is_root t ≡ b → b ≡ false) [
  | true ↦ λ r. absurd (false≢true (sym off ∙ subst (λ x. is_within s x ≡ true) (sym ((bytes_decides t (47 ∷ [])).0 r)) (within_root s v)))
  | false ↦ λ r. refl
] refl

-- ---- below a top

-- the names behind a path, and behind one that is under it
record Deeper (top x y : List ℕ) : Type 0 where
  names : List ℕ
  more : List ℕ
  some : 0 < length names
  rest : 0 < length more
  upper : x ≡ front top ++ names
  lower : y ≡ front top ++ (names ++ 47 ∷ more)

long : (top x : List ℕ) (u : IsUnder x top) → length x ≢ 1
long top x u one = absurd (omega (arith, one, u.some, some_front top, ap length u.whole, length-append (front top) u.names))

deeper : (top x y : List ℕ) → IsTrue (is_under x top) → IsTrue (is_under y x) → Deeper top x y
deeper top x y u d =
    let up = names_under x top u in
    let low = names_under y x d in
    record {
      names = up.names;
      more = low.names;
      some = up.some;
      rest = low.some;
      upper = up.whole;
      lower = low.whole
          ∙ ap (λ f. f ++ low.names) (front_other x (long top x up) ∙ ap (λ z. z ++ 47 ∷ []) up.whole)
          ∙ append_assoc (front top ++ up.names) (47 ∷ []) low.names
          ∙ append_assoc (front top) up.names (47 ∷ low.names);
    }

below_is : (top x names : List ℕ) → x ≡ front top ++ names → below_of x top ≡ 47 ∷ names
below_is top x names e = ap (λ r. 47 ∷ r) (sym (begins x (front top) names e).0)

not_one : (names : List ℕ) → 0 < length names → length (47 ∷ names) ≢ 1
not_one names some e = absurd (omega (arith, e, some))

-- a path of names stays over what it is over
under_names : (names more : List ℕ) → 0 < length names → 0 < length more → IsTrue (is_under (47 ∷ (names ++ 47 ∷ more)) (47 ∷ names))
under_names names more some rest =
    is_under_by (47 ∷ (names ++ 47 ∷ more)) (47 ∷ names) more
    (sym (ap (λ f. f ++ more) (front_other (47 ∷ names) (not_one names some)) ∙ append_assoc (47 ∷ names) (47 ∷ []) more)) rest

-- what is under a path within a top is within it below the top
pub within_below : (top x y : List ℕ) → refusal y ≡ None → IsTrue (is_within x top) → IsTrue (is_under y x) →
    IsTrue (is_within (below_of y top) (below_of x top))
within_below top x y v w d =
    ⊎_elim
    (λ is. subst (λ b. IsTrue (is_within (below_of y top) b)) (sym (ap (λ z. below_of z top) is ∙ below_top top))
    (within_root (below_of y top) (below_made y top (below_of y top) refl v (within_up y x top d w))))
    (λ u.
    let n = deeper top x y u d in
    under_within (below_of y top) (below_of x top)
    (subst (λ a. IsTrue (is_under a (below_of x top))) (sym (below_is top y (n.names ++ 47 ∷ n.more) n.lower))
    (subst (λ b. IsTrue (is_under (47 ∷ (n.names ++ 47 ∷ n.more)) b)) (sym (below_is top x n.names n.upper)) (under_names n.names n.more n.some n.rest))))
    (same_or_under x top w)

-- ---- and on another top

grafted_is : (top names : List ℕ) → 0 < length names → grafted top (47 ∷ names) ≡ front top ++ names
grafted_is top names some = grafted_names top names some ∙ sym (front-joined top names)

some_more : (names more : List ℕ) → 0 < length (names ++ 47 ∷ more)
some_more names more = omega (arith, length-append names (47 ∷ more))

-- what is under a path within a top is under it on another top
pub under_moved : (top other x y : List ℕ) → IsTrue (is_within x top) → IsTrue (is_under y x) →
    IsTrue (is_under (grafted other (below_of y top)) (grafted other (below_of x top)))
under_moved top other x y w d = ⊎_elim of_top of_under (same_or_under x top w)
  where
    of_top : x ≡ top → IsTrue (is_under (grafted other (below_of y top)) (grafted other (below_of x top)))
    of_top is =
        let n = names_under y top (subst (λ z. IsTrue (is_under y z)) is d) in
        subst (λ b. IsTrue (is_under (grafted other (below_of y top)) (grafted other b))) (sym (ap (λ z. below_of z top) is ∙ below_top top))
        (is_under_by (grafted other (below_of y top)) other n.names
        (ap (grafted other) (below_is top y n.names n.whole) ∙ grafted_is other n.names n.some) n.some)

    of_under : IsTrue (is_under x top) → IsTrue (is_under (grafted other (below_of y top)) (grafted other (below_of x top)))
    of_under u =
        let n = deeper top x y u d in
        let upper : grafted other (below_of x top) ≡ front other ++ n.names =
        ap (grafted other) (below_is top x n.names n.upper) ∙ grafted_is other n.names n.some in
        let lower : grafted other (below_of y top) ≡ front other ++ (n.names ++ 47 ∷ n.more) =
        ap (grafted other) (below_is top y (n.names ++ 47 ∷ n.more) n.lower) ∙ grafted_is other (n.names ++ 47 ∷ n.more) (some_more n.names n.more) in
        let one : length (grafted other (below_of x top)) ≢ 1 =
        λ e. absurd (omega (arith, e, n.some, some_front other, ap length upper, length-append (front other) n.names)) in
        is_under_by (grafted other (below_of y top)) (grafted other (below_of x top)) n.more
        (lower ∙ sym (ap (λ f. f ++ n.more) (front_other (grafted other (below_of x top)) one ∙ ap (λ z. z ++ 47 ∷ []) upper)
        ∙ append_assoc (front other ++ n.names) (47 ∷ []) n.more ∙ append_assoc (front other) n.names (47 ∷ n.more))) n.rest
