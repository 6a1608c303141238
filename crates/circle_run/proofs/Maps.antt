-- Lists that are made of the elements of others, by index.
use Rattle.circle_run.proofs.Prelude.{◌≡◌, ℕ, zero, suc, ◌+◌, ◌<◌, min, refl, sym, subst, ap, ◌∙◌, arith, List, [], ◌∷◌, ◌++◌, map, length, get_or, append-nil}
use Rattle.circle_run.proofs.Prelude.{append_assoc, ⊎_elim, cases_lt, length-map, get_or-map, get_or_append_left, get_or_push, length_push, map_push}
use Rattle.circle_run.proofs.Prelude.{fill_by_all, sum_by-cons, flat_map, range_with_len, sum_by}

module _ {X Y : Type 0} where
  pub map_is : (f : X → Y) (g : ℕ → Y) (xs : List X) (n : ℕ) → length xs ≡ n → ((k : ℕ) (d : X) → k < length xs → f (get_or xs k d) ≡ g k)
      → map f xs ≡ map g (range_with_len 0 n)
  map_is f g [] n long each = subst (λ (m : ℕ). [] ≡ map g (range_with_len 0 m)) long refl
  map_is f g (x ∷ xs) n long each =
      fill_by_all g (map f (x ∷ xs)) n (g 0) (length-map (x ∷ xs) f ∙ long)
      (λ k below. get_or-map f (x ∷ xs) k x (g 0) (omega (arith, long, below)) ∙ each k x (omega (arith, long, below)))

  pub map_same : {Z : Type 0} (f : X → Z) (g : Y → Z) (xs : List X) (ys : List Y) → length xs ≡ length ys
      → ((k : ℕ) (d : X) (e : Y) → k < length xs → f (get_or xs k d) ≡ g (get_or ys k e)) → map f xs ≡ map g ys
  map_same f g [] [] long each = refl
  map_same f g [] (y ∷ ys) long each = absurd (omega arith)
  map_same f g (x ∷ xs) [] long each = absurd (omega arith)
  map_same f g (x ∷ xs) (y ∷ ys) long each =
      ap (λ z. z ∷ map f xs) (each zero x y (omega arith)) ∙ ap (λ zs. g y ∷ zs) (map_same f g xs ys (omega arith) (λ k d e h. each (suc k) d e (omega arith)))

  pub flat_none : (f : X → List Y) (xs : List X) → ((k : ℕ) (d : X) → k < length xs → f (get_or xs k d) ≡ []) → flat_map f xs ≡ []
  flat_none f [] none = refl
  flat_none f (x ∷ xs) none = ap (λ ys. ys ++ flat_map f xs) (none zero x (omega arith)) ∙ flat_none f xs (λ k d h. none (suc k) d (omega arith))

  -- where only the first has something
  pub flat_first : (f : X → List Y) (x : X) (xs : List X) → ((k : ℕ) (d : X) → k < length xs → f (get_or xs k d) ≡ []) → flat_map f (x ∷ xs) ≡ f x
  flat_first f x xs none = ap (λ ys. f x ++ ys) (flat_none f xs none) ∙ append-nil (f x)

  pub sum_by-map : (f : Y → ℕ) (g : X → Y) (xs : List X) → sum_by f (map g xs) ≡ sum_by (λ x. f (g x)) xs
  sum_by-map f g [] = refl
  sum_by-map f g (x ∷ xs) = sum_by-cons f (g x) (map g xs) ∙ ap (λ n. f (g x) + n) (sum_by-map f g xs) ∙ sym (sum_by-cons (λ y. f (g y)) x xs)

module _ {X : Type 0} where
  pub some_of : (xs : List X) → 0 < length xs → X
  some_of [] some = absurd (omega arith)
  some_of (x ∷ xs) some = x

  pub sum_same : (f g : X → ℕ) (xs : List X) → ((k : ℕ) (d : X) → k < length xs → f (get_or xs k d) ≡ g (get_or xs k d)) → sum_by f xs ≡ sum_by g xs
  sum_same f g [] each = refl
  sum_same f g (x ∷ xs) each =
      sum_by-cons f x xs ∙ ap (λ n. n + sum_by f xs) (each zero x (omega arith))
      ∙ ap (λ n. g x + n) (sum_same f g xs (λ k d h. each (suc k) d (omega arith))) ∙ sym (sum_by-cons g x xs)

  -- a sum that is capped may have capped terms
  pub capped_sum : (f : X → ℕ) (c : ℕ) (xs : List X) → min (sum_by (λ x. min (f x) c) xs) c ≡ min (sum_by f xs) c
  capped_sum f c [] = refl
  capped_sum f c (x ∷ xs) =
      let rest = capped_sum f c xs in
      let a = sum_by-cons (λ (y : X). min (f y) c) x xs in
      let b = sum_by-cons f x xs in
      omega arith

module _ {X : Type 0} where
  -- what holds of each element, and of one more
  pub push_each : (F : ℕ → X → Type 0) (xs xs' : List X) (x : X) → xs' ≡ xs ++ x ∷ []
      → ((k : ℕ) (d : X) → k < length xs → F k (get_or xs k d)) → F (length xs) x → (k : ℕ) (d : X) → k < length xs' → F k (get_or xs' k d)
  push_each F xs xs' x new old last k d inside =
      subst (λ (ys : List X). F k (get_or ys k d)) (sym new) (⊎_elim
      (λ below. subst (F k) (sym (get_or_append_left xs (x ∷ []) d k below)) (old k d below))
      (λ past.
      let at : length xs ≡ k = (let l = ap length new in let p = length_push xs x in omega arith) in
      subst (F k) (sym (get_or_push xs x d k at)) (subst (λ (i : ℕ). F i x) at last))
      (cases_lt k (length xs)))

  -- a list of which the first are taken, with one more
  pub rest_more : {Y : Type 0} (f : X → Y) (all : List Y) (xs xs' : List X) (x : X) (y : Y) (rest rest' : List Y) → rest ≡ y ∷ rest'
      → f x ≡ y → xs' ≡ xs ++ x ∷ [] → all ≡ map f xs ++ rest → all ≡ map f xs' ++ rest'
  rest_more f all xs xs' x y rest rest' next is new old =
      old ∙ ap (λ ys. map f xs ++ ys) next ∙ sym (append_assoc (map f xs) (y ∷ []) rest')
      ∙ ap (λ ys. ys ++ rest') (ap (λ z. map f xs ++ z ∷ []) (sym is) ∙ sym (map_push f xs x) ∙ ap (map f) (sym new))

  -- what holds of what is made of each element
  pub map_each : {Y : Type 0} (F : ℕ → Y → Type 0) (f : X → Y) (xs : List X) (ys : List Y) → ys ≡ map f xs
      → ((k : ℕ) (d : X) → k < length xs → F k (f (get_or xs k d))) → (k : ℕ) (e : Y) → k < length ys → F k (get_or ys k e)
  map_each F f xs ys are each k e inside =
      let within : k < length xs = (let l = ap length are in let m = length-map xs f in omega arith) in
      let d : X = some_of xs (omega (arith, within)) in
      subst (F k) (sym (ap (λ zs. get_or zs k e) are ∙ get_or-map f xs k d e within)) (each k d within)
