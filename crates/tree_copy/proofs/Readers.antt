-- Actors whose readers look at one tree, and the counts of readers that are taken back.
use Rattle.tree_copy.proofs.Prelude.{◌≡◌, ◌⊎◌, inl, inr, ℕ, zero, suc, ◌+◌, ◌-◌, ◌^◌, ◌<◌, ◌≤◌, Bool, true, false, List, [], ◌∷◌, map, length, Option, Some}
use Rattle.tree_copy.proofs.Prelude.{None, IfSome, refl, ◌∙◌, sym, subst, arith, slice_get, min, nat_lt, nat_tests, recursion_from_All, sum-map, sum_by-cons}
use Rattle.tree_copy.proofs.Prelude.{All, AllByRecursion, sum_by, RoseBy, Files, AllShow, Alike, MakesDirs, BlamedAll, NoneAtEnd, Acted, Item, Fate, CopyOne}
use Rattle.tree_copy.proofs.Prelude.{longer}
use Rattle.level_work.specs.declared.items.Order.TheVariants as order

-- all show one thing

shown_at : {X D : Type 0} (f : X → D) (t : D) (xs : List X) → AllByRecursion (λ x. f x ≡ t) xs → (i : ℕ) (d : D) → slice_get (map f xs) i ≡ Some d → d ≡ t
shown_at f t [] h zero d e = cc
shown_at f t [] h (suc i) d e = cc
shown_at f t (x ∷ xs) h zero d e = let is : f x ≡ d = cc in sym is ∙ h.0
shown_at f t (x ∷ xs) h (suc i) d e = shown_at f t xs h.1 i d e

pub all_show : {X D : Type 0} (f : X → D) (t : D) (xs : List X) → All (λ x. f x ≡ t) xs → AllShow t (map f xs)
all_show f t xs h i d e = shown_at f t xs (recursion_from_All (λ x. f x ≡ t) xs h) i d e

pub alike : {X D : Type 0} (f : X → D) (t : D) (xs : List X) → All (λ x. f x ≡ t) xs → Alike (map f xs)
alike f t xs h i j d e at there = all_show f t xs h i d at ∙ sym (all_show f t xs h j e there)

-- what they show is that
pub shown : {X D : Type 0} (f : X → D) (t d : D) (xs : List X) → 0 < length xs → All (λ x. f x ≡ t) xs → AllShow d (map f xs) → d ≡ t
shown f t d [] l h s = absurd (omega (arith, l))
shown f t d (x ∷ xs) l h s = sym (s 0 (f x) refl) ∙ all_show f t (x ∷ xs) h 0 (f x) refl

-- the deed of actors whose readers look at this tree
abbrev pub DeedBy : Option Files → List ℕ → Rattle.entry_pages.specs.declared.entries.Entry.Entry → Fate → Files → Files → Type 0
DeedBy t path entry f before after = IfSome t (λ seen. CopyOne seen path entry f before after)

pub dirs_by : {X : Type 0} (f : X → Option Files) (t t' d : Option Files) (xs : List X) (items : List Item) → t' ≡ t → 0 < length xs →
    All (λ x. f x ≡ t) xs → AllShow d (map f xs) →
    IfSome t (λ before. MakesDirs order.TopDown (CopyOne before) items before) → IfSome t' (MakesDirs order.TopDown (DeedBy d) items)
dirs_by f t t' d xs items same l h s makes =
    subst (λ u. IfSome u (MakesDirs order.TopDown (DeedBy d) items)) (sym same)
    (subst (λ e. IfSome t (MakesDirs order.TopDown (DeedBy e) items)) (sym (shown f t d xs l h s)) (by t makes))
  where
    by : (t : Option Files) → IfSome t (λ before. MakesDirs order.TopDown (CopyOne before) items before) → IfSome t (MakesDirs order.TopDown (DeedBy t) items)
    by None m = tt
    by (Some before) m = m

pub acted_by : (t t' u u' : Option Files) (items : List Item) (fates : List Fate) → t' ≡ t → u' ≡ u →
    IfSome t' (λ before. IfSome u' (Acted (DeedBy t) order.TopDown items fates before)) →
    IfSome t (λ before. IfSome u (Acted (CopyOne before) order.TopDown items fates before))
acted_by t t' u u' items fates same last acted =
    by t u (subst (λ v. IfSome t (λ before. IfSome v (Acted (DeedBy t) order.TopDown items fates before))) last
    (subst (λ v. IfSome v (λ before. IfSome u' (Acted (DeedBy t) order.TopDown items fates before))) same acted))
  where
    by : (t u : Option Files) → IfSome t (λ before. IfSome u (Acted (DeedBy t) order.TopDown items fates before)) →
        IfSome t (λ before. IfSome u (Acted (CopyOne before) order.TopDown items fates before))
    by None u a = tt
    by (Some before) None a = tt
    by (Some before) (Some after) a = a

-- counts that are taken back

more : (i j : ℕ) → nat_lt i j ≡ false → j ≤ i
more i j e = grind (arith, nat_tests)

-- none of the counts stands at its end, or their sum comes to it
below_end : {X : Type 0} (f : X → ℕ) (n : ℕ) (xs : List X) → ((i k : ℕ) → slice_get (map f xs) i ≡ Some k → k < n) ⊎ (n ≤ sum_by f xs)
below_end f n [] = inl none
  where
    none : (i k : ℕ) → slice_get {X = ℕ} [] i ≡ Some k → k < n
    none zero k e = cc
    none (suc i) k e = cc
below_end f n (x ∷ xs) = by (nat_lt (f x) n) refl (below_end f n xs)
  where
    at : f x < n → ((i k : ℕ) → slice_get (map f xs) i ≡ Some k → k < n) → (i k : ℕ) → slice_get (map f (x ∷ xs)) i ≡ Some k → k < n
    at l h zero k e = let is : f x ≡ k = cc in omega (arith, l, is)
    at l h (suc i) k e = h i k e

    by : (b : Bool) → nat_lt (f x) n ≡ b → ((i k : ℕ) → slice_get (map f xs) i ≡ Some k → k < n) ⊎ (n ≤ sum_by f xs) →
        ((i k : ℕ) → slice_get (map f (x ∷ xs)) i ≡ Some k → k < n) ⊎ (n ≤ sum_by f (x ∷ xs))
    by false e rest = let l = more (f x) n e in inr (omega (arith, l, sum_by-cons f x xs))
    by true e (inl h) = inl (at (longer (f x) n e) h)
    by true e (inr h) = inr (omega (arith, h, sum_by-cons f x xs))

pub rose_by : {X : Type 0} (f : X → ℕ) (xs ys : List X) (n g g' mid last : ℕ) → g' ≡ g → sum_by f xs ≡ 0 → g' ≤ mid → mid ≤ last →
    last ≡ min (mid + sum_by f ys) (2 ^ 64 - 1) →
    BlamedAll n g' (map f xs) mid (map f ys) → RoseBy n g last
rose_by f xs ys n g g' mid last same none kept rises is b =
    record { kept = omega (arith, same, kept, rises); rose = by (nat_lt mid (2 ^ 64 - 1)) refl (below_end f (2 ^ 64 - 1) ys) }
  where
    by : (c : Bool) → nat_lt mid (2 ^ 64 - 1) ≡ c → NoneAtEnd (map f ys) ⊎ (2 ^ 64 - 1 ≤ sum_by f ys) → min (g + n) (2 ^ 64 - 1) ≤ last
    by false e h = let m = more mid (2 ^ 64 - 1) e in omega (arith, m, rises)
    by true e (inl h) = let r = b.rose (longer mid (2 ^ 64 - 1) e) h in omega (arith, r, same, none, sum-map f xs, sum-map f ys, is)
    by true e (inr h) = omega (arith, h, is)
