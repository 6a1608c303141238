-- The seats of all ranks come together, the last one of a list first. Each brings the knowledge of its rank, and that of rank 0 an answer.
use Rattle.ring_core.proofs.Prelude.{◌≡◌, ℕ, ◌+◌, ◌<◌, ◌≤◌, sym, subst, ap, ◌∙◌, arith, Bool, cond, ◌==◌, eq-eqb, ne_eqb, List, [], ◌∷◌, ◌++◌, length}
use Rattle.ring_core.proofs.Prelude.{length-append, get_or, Contains, IsPermutation, get_or-append_seam, get_or_append_left, get_or_default, get_or_push}
use Rattle.ring_core.proofs.Prelude.{Contains-append_left, Contains-get_or, Contains-push, Contains-permutation, IsPermutation-sym, dite, ℕ_discrete}

module _ {S : Type 0} where
  -- an element of a list that has one
  pub spare : (xs : List S) → 0 < length xs → S
  spare [] h = absurd (omega arith)
  spare (x ∷ xs) h = x

  -- each of a list that is one longer
  pub each_pushed : (P : ℕ → S → Type 0) (xs ys : List S) (x : S) → ys ≡ xs ++ x ∷ [] → P (length xs) x
      → ((k : ℕ) (d : S) → k < length xs → P k (get_or xs k d)) → (k : ℕ) (d : S) → k < length ys → P k (get_or ys k d)
  each_pushed P xs ys x is last each k d h =
      let long : length ys ≡ length xs + 1 = ap length is ∙ length-append xs (x ∷ []) in
      subst (λ zs. P k (get_or zs k d)) (sym is) (dite (ℕ_discrete k (length xs))
      (λ e. subst (P k) (sym (get_or_push xs x d k (sym e))) (subst (λ (j : ℕ). P j x) (sym e) last))
      (λ ne. subst (P k) (sym (get_or_append_left xs (x ∷ []) d k (omega arith))) (each k d (omega arith))))

  -- a list that has others' elements by their numbers: each has a number, and what holds by numbers holds of it
  pub numbered : (P : ℕ → S → Type 0) (ranks all : List S) → IsPermutation ranks all
      → ((k : ℕ) (d : S) → k < length ranks → P k (get_or ranks k d))
      → (s : S) → Contains all s → (k : ℕ) × (k < length ranks) × (get_or ranks k s ≡ s) × P k s
  numbered P ranks all same by_number s c = let (k, lt, at) = Contains-permutation all ranks s (IsPermutation-sym ranks all same) c in
      (k, lt, at, subst (P k) at (by_number k s lt))

  -- and but one has the number 0
  pub alone : (number : S → ℕ) (ranks all : List S) → IsPermutation ranks all → ((k : ℕ) (d : S) → k < length ranks → number (get_or ranks k d) ≡ k)
      → (r s : S) → Contains all r → Contains all s → number r ≡ 0 → number s ≡ 0 → r ≡ s
  alone number ranks all same by_number r s cr cs zr zs =
      let (i, _, at_i, of_i) = numbered (λ k x. number x ≡ k) ranks all same by_number r cr in
      let (j, lt, at_j, of_j) = numbered (λ k x. number x ≡ k) ranks all same by_number s cs in
      let first : i ≡ 0 = sym of_i ∙ zr in
      let other : j ≡ 0 = sym of_j ∙ zs in
      sym at_i ∙ ap (λ (k : ℕ). get_or ranks k r) (first ∙ sym other) ∙ get_or_default ranks j r s lt ∙ at_j

-- what a seat S brings: the knowledge K of its rank, with its number, and an answer A
pub record Brings (S K A : Type 0) : Type 0 where
  pub knows : S → K
  pub number : S → ℕ
  pub says : S → A

-- these are left, and all others came together: what they know, and the answer of rank 0 if it is among them
pub record Gathered {S K A : Type 0} (B : Brings S K A) (all left : List S) (known : List K) (answer : A) : Type 0 where
  pub short : length left < length all
  pub same : (k : ℕ) (d : S) → k < length left → get_or left k d ≡ get_or all k d
  pub has : (i : ℕ) (d : S) → length left ≤ i → i < length all → Contains known (B.knows (get_or all i d))
  pub answer_is : (i : ℕ) (d : S) → length left ≤ i → i < length all → B.number (get_or all i d) ≡ 0 → answer ≡ B.says (get_or all i d)

module _ {A : Type 0} where
  first_is : (m : ℕ) (a answer : A) → m ≡ 0 → cond (m == 0) a answer ≡ a
  first_is m a answer e = ap (λ (b : Bool). cond b a answer) (eq-eqb m 0 e)

  else_is : (m : ℕ) (a answer it : A) → (m ≡ 0 → a ≡ it) → answer ≡ it → cond (m == 0) a answer ≡ it
  else_is m a answer it same e = dite (ℕ_discrete m 0)
      (λ first. first_is m a answer first ∙ same first)
      (λ ne. ap (λ (b : Bool). cond b a answer) (ne_eqb m 0 ne) ∙ e)

module _ {S K A : Type 0} (B : Brings S K A) {all : List S} where
  -- the seat that comes first
  pub comes_first : (left : List S) (last : S) (rest : List K) (m : ℕ) (a answer now : A) → all ≡ left ++ last ∷ [] → m ≡ B.number last
      → a ≡ B.says last → now ≡ cond (m == 0) a answer → Gathered B all left (B.knows last ∷ rest) now
  comes_first left last rest m a answer now e number says is =
      let long : length all ≡ length left + 1 = ap length e ∙ length-append left (last ∷ []) in
      let here : (i : ℕ) (d : S) → length left ≤ i → i < length all → get_or all i d ≡ last =
      λ i d low high. (let at : i ≡ length left = omega arith in
      ap (λ (k : ℕ). get_or all k d) at ∙ ap (λ xs. get_or xs (length left) d) e ∙ get_or-append_seam left last [] d) in
      record {
        short = omega arith;
        same = λ k d h. sym (ap (λ xs. get_or xs k d) e ∙ get_or_append_left left (last ∷ []) d k h);
        has = λ i d low high. (
          0,
          (let one : 0 < length (B.knows last ∷ rest) = omega arith in one),
          sym (ap B.knows (here i d low high)),
        );
        answer_is = λ i d low high lowest. is ∙ first_is m a answer (number ∙ sym (ap B.number (here i d low high)) ∙ lowest)
            ∙ says ∙ sym (ap B.says (here i d low high));
      }

  -- the place of the seat that comes next
  pub came : {left : List S} (left' : List S) (other : S) {known : List K} {answer : A} → Gathered B all left known answer
      → left ≡ left' ++ other ∷ [] → (length left' < length all) × ((d : S) → get_or all (length left') d ≡ other)
  came {left} left' other {known} {answer} T e =
      let long : length left ≡ length left' + 1 = ap length e ∙ length-append left' (other ∷ []) in
      let short : length left < length all = T.short in (
        omega arith,
        λ d. sym (T.same (length left') d (omega arith)) ∙ ap (λ xs. get_or xs (length left') d) e ∙ get_or-append_seam left' other [] d,
      )

  pub comes_next : {left : List S} (left' : List S) (other : S) (known more : List K) (m : ℕ) (a answer now : A) → Gathered B all left known answer
      → ((r s : S) → Contains all r → Contains all s → B.number r ≡ 0 → B.number s ≡ 0 → r ≡ s)
      → left ≡ left' ++ other ∷ [] → more ≡ known ++ B.knows other ∷ [] → m ≡ B.number other → a ≡ B.says other
      → now ≡ cond (m == 0) a answer → Gathered B all left' more now
  comes_next {left} left' other known more m a answer now T one e grown number says is =
      let long : length left ≡ length left' + 1 = ap length e ∙ length-append left' (other ∷ []) in
      let short : length left < length all = T.short in
      let at : (d : S) → get_or all (length left') d ≡ other = (came left' other T e).1 in
      let here : Contains all other = (length left', omega arith, at other) in
      record {
        short = omega arith;
        same = λ k d h. sym (get_or_append_left left' (other ∷ []) d k h) ∙ ap (λ xs. get_or xs k d) (sym e) ∙ T.same k d (omega arith);
        has = λ i d low high. subst (λ xs. Contains xs (B.knows (get_or all i d))) (sym grown) (dite (ℕ_discrete i (length left'))
            (λ last. subst (λ (x : K). Contains (known ++ B.knows other ∷ []) x) (sym (ap (λ (k : ℕ). B.knows (get_or all k d)) last ∙ ap B.knows (at d)))
            (Contains-push known (B.knows other)))
            (λ ne. Contains-append_left known (B.knows other ∷ []) (B.knows (get_or all i d)) (T.has i d (omega arith) high)));
        answer_is = λ i d low high lowest. is ∙ dite (ℕ_discrete i (length left'))
            (λ last. (let same : get_or all i d ≡ other = ap (λ (k : ℕ). get_or all k d) last ∙ at d in
            first_is m a answer (number ∙ sym (ap B.number same) ∙ lowest) ∙ says ∙ sym (ap B.says same)))
            (λ ne. else_is m a answer (B.says (get_or all i d))
            (λ mine. says ∙ ap B.says (one other (get_or all i d) here (Contains-get_or all i d high) (sym number ∙ mine) lowest))
            (T.answer_is i d (omega arith) high lowest));
      }

  -- where none is left, each is among those that came
  pub all_know : {left : List S} {known : List K} {answer : A} → Gathered B all left known answer → length left ≡ 0 → (s : S) → Contains all s
      → Contains known (B.knows s)
  all_know {left} {known} {answer} T none s (i, lt, at) = subst (λ (x : S). Contains known (B.knows x)) at (T.has i s (omega arith) lt)

  pub first_says : {left : List S} {known : List K} {answer : A} → Gathered B all left known answer → length left ≡ 0 → (s : S) → Contains all s
      → B.number s ≡ 0 → answer ≡ B.says s
  first_says {left} {known} {answer} T none s (i, lt, at) lowest = T.answer_is i s (omega arith) lt (ap B.number at ∙ lowest) ∙ ap B.says at
