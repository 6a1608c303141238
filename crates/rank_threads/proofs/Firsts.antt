-- What ranks have, in a list by rank from which the last is taken.
use Rattle.rank_threads.proofs.Prelude.{◌≡◌, ◌<◌, ◌+◌, ℕ, ◌∷◌, ◌++◌, [], List, length, length-append, get_or, subst, ap, arith, get_or_append_left, get_or_push}

module _ {S : Type 0} (Is : ℕ → S → Type 0) where
  -- the things of the first m ranks, each of which is so
  pub record Firsts (m : ℕ) (all : List S) : Type 0 where
    pub count : length all ≡ m
    pub each : (k : ℕ) (d : S) → k < m → Is k (get_or all k d)

  pub starts : (n m : ℕ) (all : List S) → m ≡ n → length all ≡ n → ((k : ℕ) (d : S) → k < n → Is k (get_or all k d)) → Firsts m all
  starts n m all e long each = record { count = omega (arith, e, long); each = λ k d below. each k d (omega (arith, below, e)) }

  at_end : (j m : ℕ) (all rest : List S) (last : S) → Firsts j all → j ≡ m + 1 → all ≡ rest ++ last ∷ [] → length rest ≡ m
  at_end j m all rest last f e is = let a = ap length is in let b = length-append rest (last ∷ []) in let c = f.count in omega arith

  -- those before the last one
  pub before : (j m : ℕ) (all rest : List S) (last : S) → Firsts j all → j ≡ m + 1 → all ≡ rest ++ last ∷ [] → Firsts m rest
  before j m all rest last f e is =
      let long : length rest ≡ m = at_end j m all rest last f e is in
      record {
        count = long;
        each = λ k d below. subst (Is k) (get_or_append_left rest (last ∷ []) d k (omega (arith, below, long)))
            (subst (λ (xs : List S). Is k (get_or xs k d)) is (f.each k d (omega (arith, below, e))));
      }

  -- the last one
  pub last_of : (j m : ℕ) (all rest : List S) (last : S) → Firsts j all → j ≡ m + 1 → all ≡ rest ++ last ∷ [] → Is m last
  last_of j m all rest last f e is =
      let long : length rest ≡ m = at_end j m all rest last f e is in
      subst (Is m) (get_or_push rest last last m long) (subst (λ (xs : List S). Is m (get_or xs m last)) is (f.each m last (omega (arith, e))))
