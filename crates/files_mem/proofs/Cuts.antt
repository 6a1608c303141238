-- The files that are out in spans.
use Rattle.files_mem.proofs.Prelude.{◌≡◌, ℕ, ◌+◌, ◌≤◌, true, false, cond, List, [], ◌∷◌, ◌++◌, length, refl, ap, arith, nat_eq, Option, Some, None, is_some}
use Rattle.files_mem.proofs.Prelude.{false≢true, length-append, Result, Ok, Err, OnOk, OnErr, option_map, pointwise, Cut, cuts_at, without_cut}

-- one file less is out
pub one_cut_less : (path : List ℕ) (cut : List Cut) → is_some (cuts_at path cut) ≡ true → length (without_cut path cut) + 1 ≡ length cut
one_cut_less path [] e = absurd (false≢true e)
one_cut_less path (one ∷ cut) e =
    elim (pointwise nat_eq one.path path) as
    (λ b. is_some (cond b (Some one.cuts) (cuts_at path cut)) ≡ true → length (cond b cut (one ∷ without_cut path cut)) + 1 ≡ length (one ∷ cut)) [
      | true ↦ λ _. omega arith
      | false ↦ λ h. let r = one_cut_less path cut h in omega (arith, r)
    ] e

pub some_mapped : {A B : Type 0} (f : A → B) (o : Option A) (x : B) → option_map f o ≡ Some x → is_some o ≡ true
some_mapped f None x e = absurd cc
some_mapped f (Some a) x e = refl

-- one file more is out at most
pub cut_room : {A E : Type 0} (r : Result A E) (cut new : List Cut) (one : Cut) → OnOk r (new ≡ cut ++ one ∷ []) → OnErr r (new ≡ cut)
    → length new ≤ length cut + 1
cut_room (Ok x) cut new one done same = omega (arith, ap length done, length-append cut (one ∷ []))
cut_room (Err e) cut new one done same = omega (arith, ap length same)
