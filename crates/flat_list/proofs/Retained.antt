-- A test that is asked of one element more.
use Rattle.flat_list.proofs.Prelude.{◌≡◌, refl, ap, sym, ◌∙◌, Bool, true, false, cond, List, [], ◌∷◌, ◌++◌, length, ◌+◌, subst, length-append, arith}
use Rattle.flat_list.proofs.Prelude.{items_where_true, ReturnsInTurn, IsFiltered}

module _ {X P : Type 0} (R : P → X → Bool → P → Type 0) where
  -- what a test that started as p, and is now q, kept of some elements
  pub record Kept (p q : P) (xs ys : List X) : Type 0 where
    pub bs : List Bool
    pub many : length bs ≡ length xs
    pub told : ReturnsInTurn R p bs xs q
    pub is : ys ≡ items_where_true bs xs

  pub kept_none : (p : P) → Kept p p [] []
  kept_none p = record { bs = []; many = refl; told = refl; is = refl }

  told_more : (p q r : P) (bs : List Bool) (xs : List X) (b : Bool) (x : X) → length bs ≡ length xs → ReturnsInTurn R p bs xs q → R q x b r →
      ReturnsInTurn R p (bs ++ b ∷ []) (xs ++ x ∷ []) r
  told_more p q r [] [] b x e t h = (r, subst (λ (p : P). R p x b r) (sym t) h, refl)
  told_more p q r [] (y ∷ xs) b x e t h = absurd (omega (arith, e))
  told_more p q r (c ∷ bs) [] b x e t h = absurd t
  told_more p q r (c ∷ bs) (y ∷ xs) b x e t h = (t.0, t.1, told_more t.0 q r bs xs b x (omega (arith, e)) t.2 h)

  items_more : (bs : List Bool) (xs : List X) (b : Bool) (x : X) → length bs ≡ length xs →
      items_where_true (bs ++ b ∷ []) (xs ++ x ∷ []) ≡ items_where_true bs xs ++ cond b (x ∷ []) []
  items_more [] [] true x e = refl
  items_more [] [] false x e = refl
  items_more [] (y ∷ xs) b x e = absurd (omega (arith, e))
  items_more (c ∷ bs) [] b x e = absurd (omega (arith, e))
  items_more (true ∷ bs) (y ∷ xs) b x e = ap (λ (zs : List X). y ∷ zs) (items_more bs xs b x (omega (arith, e)))
  items_more (false ∷ bs) (y ∷ xs) b x e = items_more bs xs b x (omega (arith, e))

  pub kept_more : (p q r : P) (xs ys : List X) (b : Bool) (x : X) → Kept p q xs ys → R q x b r → Kept p r (xs ++ x ∷ []) (ys ++ cond b (x ∷ []) [])
  kept_more p q r xs ys b x k h = record {
    bs = k.bs ++ b ∷ [];
    many = length-append k.bs (b ∷ []) ∙ ap (λ n. n + 1) k.many ∙ sym (length-append xs (x ∷ []));
    told = told_more p q r k.bs xs b x k.many k.told h;
    is = ap (λ (zs : List X). zs ++ cond b (x ∷ []) []) k.is ∙ sym (items_more k.bs xs b x k.many);
  }

  pub kept_all : (p q : P) (xs ys : List X) → Kept p q xs ys → IsFiltered R p xs ys
  kept_all p q xs ys k = (k.bs, q, k.many, k.told, k.is)
