-- Of paths in path order the last one that is in no earlier one covers, of all that follows, what any of them covers.
use Rattle.checkpoints.proofs.Prelude.{◌≡◌, ℕ, ◌<◌, ◌≤◌, Bool, true, false, ◌&&◌, ◌||◌, List, [], ◌∷◌, ◌++◌, length, refl, ap, ◌∙◌, sym, subst, arith, cond}
use Rattle.checkpoints.proofs.Prelude.{Option, Some, None, ◌==◌, AllByRecursion, list_any, nat_cmp, ordering_then, is_lt, ordering_reverse, Ordering, Less}
use Rattle.checkpoints.proofs.Prelude.{Equal, Greater, false≢true, and_parts, nat_tests, path_cmp, byte_rank, front, path_cmp_total, path_cmp_same, precedes}
use Rattle.checkpoints.proofs.Prelude.{is_in, begins, is_in_is, in_itself, in_trans, begins-itself, begins-less, begins-length, in_line, not_both, before_later}
use Rattle.checkpoints.proofs.Prelude.{Behind, AllBehind, covered, top_with, IsTop, is_one}
use Rattle.std.proofs.Common.{length-append}

-- ---- what stands behind a path

-- what stands behind a path is that path, or is greater
behind_cases : (Q : Type 0) (x y : List ℕ) → Behind x y → (x ≡ y → Q) → (path_cmp x y ≡ Less → Q) → Q
behind_cases Q x y n same less =
    elim (path_cmp x y) as (λ c. path_cmp x y ≡ c → Q) [
      | Less ↦ λ l. less l
      | Equal ↦ λ q. same (path_cmp_same x y q)
      | Greater ↦ λ g. absurd (false≢true (sym n ∙ ap is_lt (path_cmp_total.antisymm y x ∙ ap ordering_reverse g)))
    ] refl

precedes_later : (p x y : List ℕ) → precedes p x ≡ true → Behind x y → precedes p y ≡ true
precedes_later p x y e n = behind_cases (precedes p y ≡ true) x y n (λ s. ap (precedes p) (sym s) ∙ e) (λ l. before_later (front p) x y e l)

-- of two paths the later one is behind all that is under the earlier one, or is in it
past : (k x : List ℕ) → Behind k x → is_in x k ≡ false → precedes k x ≡ true
past k x n f = behind_cases (precedes k x ≡ true) k x n
    (λ s. absurd (false≢true (sym f ∙ ap (λ y. is_in y k) (sym s) ∙ in_itself k)))
    (λ l. in_line k x l (sym (is_in_is x k) ∙ f))

-- what stands between a path and one in it is in it too
pub between : (k z y : List ℕ) → Behind k z → Behind z y → is_in y k ≡ true → is_in z k ≡ true
between k z y n m e =
    elim (is_in z k) as (λ b. is_in z k ≡ b → b ≡ true) [
      | true ↦ λ t. refl
      | false ↦ λ f.
          let out = not_both y k y (precedes_later k z y (past k z n f) m) (begins-itself (front y)) in
          absurd (false≢true (sym out ∙ sym (is_in_is y k) ∙ e))
    ] refl

pub behind_trans : (x y z : List ℕ) → Behind x y → Behind y z → Behind x z
behind_trans x y z n m = behind_cases (Behind x z) x y n (λ s. subst (λ w. Behind w z) (sym s) m) (λ l.
    behind_cases (Behind x z) y z m (λ s. subst (Behind x) s n) (λ r.
    let less = path_cmp_total.trans x y z l r in ap is_lt (path_cmp_total.antisymm z x ∙ ap ordering_reverse less)))

-- ---- the top of paths

or_false : (b : Bool) → (b || false) ≡ b
or_false true = refl
or_false false = refl

any_push : (f : List ℕ → Bool) (xs : List (List ℕ)) (z : List ℕ) → list_any f (xs ++ z ∷ []) ≡ (list_any f xs || f z)
any_push f [] z = or_false (f z)
any_push f (x ∷ xs) z = ap (λ b. f x || b) (any_push f xs z) ∙ regroup (f x) (list_any f xs) (f z)
  where
    regroup : (a b c : Bool) → (a || (b || c)) ≡ ((a || b) || c)
    regroup true b c = refl
    regroup false b c = refl

pub before_push : (P : List ℕ → Type 0) (xs : List (List ℕ)) (z : List ℕ) → AllByRecursion P (xs ++ z ∷ []) → AllByRecursion P xs × P z
before_push P [] z h = (tt, h.0)
before_push P (x ∷ xs) z h = let r = before_push P xs z h.1 in ((h.0, r.0), r.1)

or_both : (a b c : Bool) → a ≡ c → (b ≡ true → c ≡ true) → (a || b) ≡ c
or_both true b c e h = e
or_both false true c e h = sym (h refl)
or_both false false c e h = e

or_second : (a b : Bool) → (a ≡ true → b ≡ true) → (a || b) ≡ b
or_second true b h = sym (h refl)
or_second false b h = refl

-- a path that the top covers leaves the top
kept : (paths : List (List ℕ)) (top : Option (List ℕ)) (z : List ℕ) → IsTop paths top → AllBehind paths z → covered top z ≡ true → IsTop (paths ++ z ∷ []) top
kept paths None z t n e = absurd (false≢true e)
kept paths (Some k) z t n e = record {
  among = λ y h. t.among y (before_push (λ x. Behind x y) paths z h).0;
  covers = λ y h.
      let r = before_push (λ x. Behind x y) paths z h in
      any_push (is_in y) paths z ∙ or_both (list_any (is_in y) paths) (is_in y z) (is_in y k) (t.covers y r.0) (λ q. in_trans y z k q e);
}

-- any other becomes the top
taken : (paths : List (List ℕ)) (top : Option (List ℕ)) (z : List ℕ) → IsTop paths top → AllBehind paths z → covered top z ≡ false →
    IsTop (paths ++ z ∷ []) (Some z)
taken paths None z t n e = record {
  among = λ y h. (before_push (λ x. Behind x y) paths z h).1;
  covers = λ y h. let r = before_push (λ x. Behind x y) paths z h in any_push (is_in y) paths z ∙ ap (λ b. b || is_in y z) (t.covers y r.0);
}
taken paths (Some k) z t n e = record {
  among = λ y h. (before_push (λ x. Behind x y) paths z h).1;
  covers = λ y h.
      let r = before_push (λ x. Behind x y) paths z h in
      any_push (is_in y) paths z ∙ ap (λ b. b || is_in y z) (t.covers y r.0)
      ∙ or_second (is_in y k) (is_in y z) (λ q. absurd (false≢true (sym e ∙ between k z y (t.among z n) r.1 q)));
}

-- the top of one path more
pub top_push : (paths : List (List ℕ)) (top : Option (List ℕ)) (z : List ℕ) → IsTop paths top → AllBehind paths z → IsTop (paths ++ z ∷ []) (top_with top z)
top_push paths top z t n =
    elim (covered top z) as (λ b. covered top z ≡ b → IsTop (paths ++ z ∷ []) (cond b top (Some z))) [
      | true ↦ λ e. kept paths top z t n e
      | false ↦ λ e. taken paths top z t n e
    ] refl

-- ---- a path stands at or before what is in it

begins_front : (p x r : List ℕ) → begins p (x ++ r) ≡ true → length p ≤ length x → begins p x ≡ true
begins_front [] x r e l = refl
begins_front (a ∷ p) [] r e l = absurd (omega arith)
begins_front (a ∷ p) (b ∷ x) r e l =
    let h = and_parts (a == b) (begins p (x ++ r)) e in
    ap (λ c. c && begins p x) h.0 ∙ begins_front p x r h.1 (omega arith)

not_less : (a b : ℕ) (p : Bool) (r : Ordering) → (a == b && p) ≡ true → (p ≡ true → is_lt r ≡ false) →
    is_lt (ordering_then (nat_cmp (byte_rank b) (byte_rank a)) r) ≡ false
not_less a b p r e h =
    let same : byte_rank b ≡ byte_rank a = grind (arith, nat_tests) in
    let tie : nat_cmp (byte_rank b) (byte_rank a) ≡ Equal = grind (arith, nat_tests) in
    ap (λ c. is_lt (ordering_then c r)) tie ∙ h (and_parts (a == b) p e).1

behind_begins : (p x : List ℕ) → begins p x ≡ true → Behind p x
behind_begins [] [] e = refl
behind_begins [] (b ∷ x) e = refl
behind_begins (a ∷ p) [] e = absurd (false≢true e)
behind_begins (a ∷ p) (b ∷ x) e = not_less a b (begins p x) (path_cmp x p) e (behind_begins p x)

short_front : (p x : List ℕ) → 0 < length x → length p ≡ 1 → begins p (front x) ≡ true → begins p x ≡ true
short_front p x some one e =
    elim (length x == 1) as (λ b. begins p (cond b x (x ++ 47 ∷ [])) ≡ true → begins p x ≡ true) [
      | true ↦ λ e. e
      | false ↦ λ e. begins_front p x (47 ∷ []) e (omega (arith, one, some))
    ] e

long_front : (p x : List ℕ) → begins (p ++ 47 ∷ []) (front x) ≡ true → begins p x ≡ true
long_front p x e =
    elim (length x == 1) as (λ b. begins (p ++ 47 ∷ []) (cond b x (x ++ 47 ∷ [])) ≡ true → begins p x ≡ true) [
      | true ↦ λ e. begins-less p (47 ∷ []) x e
      | false ↦ λ e.
          let long = begins-length (p ++ 47 ∷ []) (x ++ 47 ∷ []) e in
          begins_front p x (47 ∷ []) (begins-less p (47 ∷ []) (x ++ 47 ∷ []) e)
          (omega (arith, long, length-append p (47 ∷ []), length-append x (47 ∷ [])))
    ] e

begins_path : (p x : List ℕ) → 0 < length x → begins (front p) (front x) ≡ true → begins p x ≡ true
begins_path p x some e =
    elim (length p == 1) as (λ b. (length p == 1) ≡ b → begins (cond b p (p ++ 47 ∷ [])) (front x) ≡ true → begins p x ≡ true) [
      | true ↦ λ q e. short_front p x some (is_one (length p) q) e
      | false ↦ λ q e. long_front p x e
    ] refl e

pub behind_in : (x p : List ℕ) → 0 < length x → is_in x p ≡ true → Behind p x
behind_in x p some e = behind_begins p x (begins_path p x some (sym (is_in_is x p) ∙ e))

-- what stands at a path or before it, and behind it, is the path
pub same_place : (x y : List ℕ) → Behind x y → Behind y x → x ≡ y
same_place x y n m = behind_cases (x ≡ y) x y n (λ s. s) (λ l. absurd (false≢true (sym m ∙ ap is_lt l)))

-- what is less is not in what is greater
pub less_out : (x y : List ℕ) → 0 < length x → path_cmp x y ≡ Less → is_in x y ≡ false
less_out x y some l = elim (is_in x y) as (λ b. is_in x y ≡ b → b ≡ false) [
  | true ↦ λ t. absurd (false≢true (sym (behind_in x y some t) ∙ ap is_lt l))
  | false ↦ λ f. refl
] refl

-- what is less than a path is less than what stands behind that
pub less_after : (x y z : List ℕ) → path_cmp x y ≡ Less → Behind y z → path_cmp x z ≡ Less
less_after x y z l n = behind_cases (path_cmp x z ≡ Less) y z n (λ s. subst (λ w. path_cmp x w ≡ Less) s l) (λ r. path_cmp_total.trans x y z l r)
