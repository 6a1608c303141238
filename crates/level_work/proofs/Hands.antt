-- Actors that become lots.
use Rattle.level_work.proofs.Prelude.{◌≡◌, ◌⊎◌, inl, inr, ℕ, List, [], ◌∷◌, ◌++◌, map, length, take, drop, append-nil, append_assoc, arith, Some, None, ap, ◌∙◌}
use Rattle.level_work.proofs.Prelude.{sym, subst, slice_get, Result, Ok, Err, IfOk, map_push, nil_from_length, length-drop, take_all, AtHome, Lot}
use Rattle.level_work.proofs.Working.{get_more}

-- a list of which the first are taken, with one more
pub rest_more : {X Y : Type 0} (f : X → Y) (all : List Y) (xs xs' : List X) (x : X) (y : Y) (rest rest' : List Y) → rest ≡ y ∷ rest'
    → f x ≡ y → xs' ≡ xs ++ x ∷ [] → all ≡ map f xs ++ rest → all ≡ map f xs' ++ rest'
rest_more f all xs xs' x y rest rest' next is new old =
    old ∙ ap (λ ys. map f xs ++ ys) next ∙ sym (append_assoc (map f xs) (y ∷ []) rest')
    ∙ ap (λ ys. ys ++ rest') (ap (λ z. map f xs ++ z ∷ []) (sym is) ∙ sym (map_push f xs x) ∙ ap (map f) (sym new))

pub home_more : {A P : Type 0} (lots lots' : List (Lot A P)) (lot : Lot A P) → lots' ≡ lots ++ lot ∷ [] → lot.part ≡ None → AtHome lots → AtHome lots'
home_more lots lots' lot new none home i one at = by (get_more lots lot i one (subst (λ ls. slice_get ls i ≡ Some one) new at))
  where
    by : (slice_get lots i ≡ Some one) ⊎ ((i ≡ length lots) × (lot ≡ one)) → one.part ≡ None
    by (inl old) = home i one old
    by (inr last) = subst (λ (l : Lot _ _). l.part ≡ None) last.1 none

pub if_ok : {T E : Type 0} (F G : T → Type 0) (r : Result T E) → ((x : T) → F x → G x) → IfOk r F → IfOk r G
if_ok F G (Ok x) f h = f x h
if_ok F G (Err e) f h = tt

-- a list that is written back whole
pub written_back : {X : Type 0} (n : ℕ) (new old : List X) → length new ≡ n → length old ≡ n → take n (new ++ drop (length new) old) ≡ new
written_back n new old h k =
    let none : drop (length new) old ≡ [] = nil_from_length (drop (length new) old) (omega (arith, length-drop (length new) old)) in
    ap (λ xs. take n (new ++ xs)) none ∙ ap (take n) (append-nil new) ∙ take_all n new (omega arith)
