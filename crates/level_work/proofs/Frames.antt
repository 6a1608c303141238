-- What stands at and under a path, where other paths change.
use Rattle.level_work.proofs.Prelude.{◌≡◌, ℕ, true, false, cond, List, None, refl, ap, ◌∙◌, sym, nat_eq, false≢true, get, get-retain_keys, same_map, pointwise}
use Rattle.level_work.proofs.Prelude.{bytes_decides, itself, is_within, path_cmp_total, path_cmp_same, Files, SameBut, at_and_under}

pub get_at : (p : List ℕ) (files : Files) (q : List ℕ) → get (at_and_under p files) q ≡ cond (is_within q p) (get files q) None
get_at p files q = get-retain_keys files (λ q. is_within q p) q (λ x e. ap (λ y. is_within y p) (sym (path_cmp_same q x e)))

pub get_here : (p : List ℕ) (files : Files) → get (at_and_under p files) p ≡ get files p
get_here p files = get_at p files p ∙ ap (λ b. cond b (get files p) None) (itself p)

-- where the maps agree at and under the path
pub same_at : (p : List ℕ) (a b : Files) → ((q : List ℕ) → is_within q p ≡ true → get b q ≡ get a q) → at_and_under p b ≡ at_and_under p a
same_at p a b h = same_map path_cmp_total path_cmp_same (at_and_under p b) (at_and_under p a)
    (λ q. get_at p b q ∙ elim (is_within q p) as (λ c. is_within q p ≡ c → cond c (get b q) None ≡ cond c (get a q) None) [
      | true ↦ h q
      | false ↦ λ _. refl
    ] refl ∙ sym (get_at p a q))

-- a path that is not within another is not that one
pub apart_is_other : (q p y : List ℕ) → is_within y p ≡ false → is_within q p ≡ true → pointwise nat_eq q y ≡ false
apart_is_other q p y off on = elim (pointwise nat_eq q y) as (λ b. pointwise nat_eq q y ≡ b → b ≡ false) [
  | true ↦ λ is. absurd (false≢true (sym off ∙ ap (λ x. is_within x p) (sym ((bytes_decides q y).0 is)) ∙ on))
  | false ↦ λ _. refl
] refl

pub one_elsewhere : (p y : List ℕ) (a b : Files) → is_within y p ≡ false → SameBut y a b → at_and_under p b ≡ at_and_under p a
one_elsewhere p y a b off s = same_at p a b (λ q on. s q (apart_is_other q p y off on))
