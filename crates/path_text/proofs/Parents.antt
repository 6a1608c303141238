-- A text around its last slash, and the parent of a path.
use Rattle.path_text.proofs.Prelude.{◌≡◌, ℕ, ◌+◌, ◌-◌, ◌<◌, ◌≤◌, zero, suc, Bool, true, false, not, cond, eqb, ◌||◌, None, List, [], ◌∷◌, ◌++◌, length, take}
use Rattle.path_text.proofs.Prelude.{drop, get_or, refl, ap, sym, ◌∙◌, arith, append_assoc, length-append, list_any, before_last, after_last, suffix_len}
use Rattle.path_text.proofs.Prelude.{slice_split, false≢true, or_parts, nat_tests, take_at, drop_at, get_or-append_right, suffix_len_is, get_or-append_seam}
use Rattle.path_text.proofs.Prelude.{nat_eq, IsTrue, pointwise, is_slash, refusal, first_fault, joined, is_name, base_of, parent_of, front, is_under}
use Rattle.path_text.proofs.Prelude.{ParentIsOver}
use Rattle.path_text.proofs.Joined.{first_slash, names_fine}
use Rattle.path_text.proofs.Parts.{front_long, base_named, before_made}
use Rattle.path_text.proofs.Preorder.{front-joined, some_bytes}
use Rattle.path_text.proofs.Under.{is_under_by}
use Rattle.path_text.proofs.Within.{not_one, not_root}

-- ---- a text around its last slash

pub all_bare : (y : List ℕ) (k : ℕ) → list_any is_slash y ≡ false → k < length y → not (is_slash (get_or y k 0)) ≡ true
all_bare [] k e l = absurd (omega arith)
all_bare (b ∷ y) k e l =
    let n = or_parts (is_slash b) (list_any is_slash y) e in
    elim k as (λ k. k < length (b ∷ y) → not (is_slash (get_or (b ∷ y) k 0)) ≡ true) [
      | zero ↦ λ l. ap not n.0
      | suc j ↦ λ l. all_bare y j n.1 (omega arith)
    ] l

-- what stands before the last slash, and what behind it
pub record AroundSlash (before base : List ℕ) : Type 0 where
  pub first : before_last is_slash (before ++ 47 ∷ base) ≡ before
  pub last : after_last is_slash (before ++ 47 ∷ base) ≡ base

pub around_slash : (before base : List ℕ) → list_any is_slash base ≡ false → AroundSlash before base
around_slash before base bare =
    let n : suffix_len (λ x. not (is_slash x)) all ≡ length all - (length before + 1) = suffix_len_is (λ x. not (is_slash x)) all (length before + 1) 0
    (omega (arith, len)) later at in
    record {
      first = ap (λ k. take k all) (omega (arith, len, n)) ∙ take_at before (47 ∷ base) (length before) refl;
      last = ap (λ k. drop k all) (omega (arith, len, n)) ∙ ap (drop (length before + 1)) split
          ∙ drop_at (before ++ 47 ∷ []) base (length before + 1) (length-append before (47 ∷ []));
    }
  where
    all : List ℕ
    all = before ++ 47 ∷ base

    len : length all ≡ length before + (length base + 1)
    len = omega (arith, length-append before (47 ∷ base))

    split : all ≡ (before ++ 47 ∷ []) ++ base
    split = sym (append_assoc before (47 ∷ []) base)

    later : (k : ℕ) → length before + 1 ≤ k → k < length all → not (is_slash (get_or all k 0)) ≡ true
    later k l m =
        ap (λ xs. not (is_slash (get_or xs k 0))) split
        ∙ ap (λ b. not (is_slash b))
        (get_or-append_right (before ++ 47 ∷ []) base (length before + 1) k 0 (omega (arith, length-append before (47 ∷ []))) l)
        ∙ all_bare base (k - (length before + 1)) bare (omega (arith, len))

    at : 0 < length before + 1 → not (is_slash (get_or all (length before + 1 - 1) 0)) ≡ false
    at l = ap (λ k. not (is_slash (get_or all k 0))) (back (length before)) ∙ ap (λ b. not (is_slash b)) (get_or-append_seam before 47 base 0)
      where
        back : (k : ℕ) → k + 1 - 1 ≡ k
        back k = omega arith

-- a text that has a slash, cut at its last one
pub record CutAtSlash (x : List ℕ) : Type 0 where
  pub before : List ℕ
  pub base : List ℕ
  pub whole : x ≡ before ++ 47 ∷ base
  pub bare : list_any is_slash base ≡ false

pub slash_is : (b : ℕ) → is_slash b ≡ true → b ≡ 47
slash_is b e = grind (arith, nat_tests)

or_first : (a b : Bool) → (a || b) ≡ true → b ≡ false → a ≡ true
or_first true b e f = refl
or_first false b e f = absurd (false≢true (sym f ∙ e))

pub cut_at_slash : (x : List ℕ) → list_any is_slash x ≡ true → CutAtSlash x
cut_at_slash [] e = absurd (false≢true e)
cut_at_slash (b ∷ x) e =
    elim (list_any is_slash x) as (λ s. list_any is_slash x ≡ s → CutAtSlash (b ∷ x)) [
      | true ↦ λ is. let c = cut_at_slash x is in record { before = b ∷ c.before; base = c.base; whole = ap (λ r. b ∷ r) c.whole; bare = c.bare }
      | false ↦ λ is. record {
        before = [];
        base = x;
        whole = ap (λ b. b ∷ x) (slash_is b (or_first (is_slash b) (list_any is_slash x) e is));
        bare = is;
      }
    ] refl

none_last : (x : List ℕ) → list_any is_slash x ≡ false → after_last is_slash x ≡ x
none_last x e =
    let n : suffix_len (λ b. not (is_slash b)) x ≡ length x - 0 = suffix_len_is (λ b. not (is_slash b)) x 0 0 (omega arith)
    (λ k l m. all_bare x k e m) (λ z. absurd (omega arith)) in
    let none : 0 ≡ length x - suffix_len (λ b. not (is_slash b)) x = omega (arith, n) in
    sym (ap (λ k. drop k x) none)

-- the last name has no slash
pub base_bare : (x : List ℕ) → list_any is_slash (base_of x) ≡ false
base_bare x =
    elim (list_any is_slash x) as (λ s. list_any is_slash x ≡ s → list_any is_slash (base_of x) ≡ false) [
      | true ↦ λ is.
          let c = cut_at_slash x is in
          ap (λ y. list_any is_slash (base_of y)) c.whole ∙ ap (list_any is_slash) (around_slash c.before c.base c.bare).last ∙ c.bare
      | false ↦ λ is. ap (list_any is_slash) (none_last x is) ∙ is
    ] refl

-- ---- the parent of a path

-- the path that a text before a slash is
abbrev pub or_root : List ℕ → List ℕ
or_root before = cond (eqb (length before) 0) (47 ∷ []) before

pub parent_cut : (before name : List ℕ) → list_any is_slash name ≡ false → parent_of (before ++ 47 ∷ name) ≡ or_root before
parent_cut before name bare = ap or_root (around_slash before name bare).first

long : (b : ℕ) (before : List ℕ) → or_root (b ∷ before) ≡ b ∷ before
long b before = let some : eqb (length (b ∷ before)) 0 ≡ false = grind (arith, nat_tests) in ap (λ r. cond r (47 ∷ []) (b ∷ before)) some

pub some_before : (before rest : List ℕ) → or_root (before ++ 47 ∷ rest) ≡ before ++ 47 ∷ rest
some_before [] rest = long 47 rest
some_before (b ∷ before) rest = long b (before ++ 47 ∷ rest)

-- a path, by what stands before the slash that its front ends in
pub record Ended (path : List ℕ) : Type 0 where
  pub before : List ℕ
  pub front_is : front path ≡ before ++ 47 ∷ []
  pub is : path ≡ or_root before

pub ended : (path : List ℕ) → refusal path ≡ None → Ended path
ended [] v = absurd cc
ended (a ∷ []) v = let slash = ap (λ b. b ∷ []) (first_slash a [] v) in record { before = []; front_is = slash; is = slash }
ended (a ∷ b ∷ path) v = record { before = a ∷ b ∷ path; front_is = front_long a b path; is = sym (long a (b ∷ path)) }

-- a path is the parent of what is joined to it
pub parent_joined : (dir name : List ℕ) → refusal dir ≡ None → list_any is_slash name ≡ false → parent_of (joined dir name) ≡ dir
parent_joined dir name fine bare =
    let e = ended dir fine in
    ap parent_of (sym (front-joined dir name) ∙ ap (λ f. f ++ name) e.front_is ∙ append_assoc e.before (47 ∷ []) name) ∙
    parent_cut e.before name bare ∙ sym e.is

-- a path has a slash
pub some_slash : (path : List ℕ) → refusal path ≡ None → list_any is_slash path ≡ true
some_slash [] v = absurd cc
some_slash (b ∷ path) v = ap (λ c. is_slash c || list_any is_slash path) (first_slash b path v)

-- a path other than `/`, cut into its parent and its name
pub record Cut (path : List ℕ) : Type 0 where
  pub name : List ℕ
  pub whole : path ≡ front (parent_of path) ++ name
  pub some : 0 < length name
  pub bare : list_any is_slash name ≡ false

pub cut : (path : List ℕ) → refusal path ≡ None → pointwise nat_eq path (47 ∷ []) ≡ false → Cut path
cut path v off =
    let c = cut_at_slash path (some_slash path v) in
    record {
      name = c.base;
      whole = c.whole ∙ sym (ap (λ p. front p ++ c.base) (ap parent_of c.whole ∙ parent_cut c.before c.base c.bare) ∙ made c.before c.base c.whole);
      some = some_bytes c.base (base_named path c.before c.base c.whole c.bare v (not_one path v off));
      bare = c.bare;
    }
  where
    made : (before base : List ℕ) → path ≡ before ++ 47 ∷ base → front (or_root before) ++ base ≡ before ++ 47 ∷ base
    made [] base e = refl
    made (a ∷ []) base e = absurd (empty_name (names_fine a (47 ∷ base) (ap refusal (sym e) ∙ v) (omega arith)))
      where
        empty_name : first_fault (slice_split is_slash (47 ∷ base)) ≡ None → ⊥
        empty_name h = cc
    made (a ∷ b ∷ before) base e =
        ap (λ p. front p ++ base) (long a (b ∷ before)) ∙ ap (λ f. f ++ base) (front_long a b before) ∙ append_assoc (a ∷ b ∷ before) (47 ∷ []) base

-- what stands behind the front of another text is a name, if all of it is a path
pub name_behind : (p name : List ℕ) → refusal (front p ++ name) ≡ None → 0 < length name → list_any is_slash name ≡ false → IsTrue (is_name name)
name_behind [] name v some bare = base_named (47 ∷ name) [] name refl bare v (λ l. absurd (omega (arith, some, l)))
name_behind (a ∷ []) name v some bare =
    base_named (a ∷ name) [] name (ap (λ b. b ∷ name) (first_slash a name v)) bare v (λ l. absurd (omega (arith, some, l)))
name_behind (a ∷ b ∷ p) name v some bare =
    base_named (front (a ∷ b ∷ p) ++ name) (a ∷ b ∷ p) name whole bare v
    (λ l. absurd (omega (arith, l, ap length whole, length-append (a ∷ b ∷ p) (47 ∷ name))))
  where
    whole : front (a ∷ b ∷ p) ++ name ≡ (a ∷ b ∷ p) ++ 47 ∷ name
    whole = ap (λ f. f ++ name) (front_long a b p) ∙ append_assoc (a ∷ b ∷ p) (47 ∷ []) name

-- the parent of a path is a path
pub parent_valid : (path : List ℕ) → refusal path ≡ None → refusal (parent_of path) ≡ None
parent_valid path v =
    let c = cut_at_slash path (some_slash path v) in
    ap refusal (ap parent_of c.whole ∙ parent_cut c.before c.base c.bare) ∙ by c.before (λ some. before_made path c.before c.base c.whole some v)
  where
    by : (before : List ℕ) → (0 < length before → refusal before ≡ None) → refusal (or_root before) ≡ None
    by [] h = refl
    by (b ∷ before) h = ap refusal (long b before) ∙ h (omega arith)

pub parent_some : (path : List ℕ) → 0 < length (parent_of path)
parent_some path = by (before_last is_slash path)
  where
    by : (before : List ℕ) → 0 < length (or_root before)
    by [] = omega arith
    by (b ∷ before) = omega (arith, ap length (long b before))

-- which the path is under
pub parent_under : (path : List ℕ) → refusal path ≡ None → pointwise nat_eq path (47 ∷ []) ≡ false → IsTrue (is_under path (parent_of path))
parent_under path v off = let c = cut path v off in is_under_by path (parent_of path) c.name c.whole c.some

pub parent_is_over : ParentIsOver
parent_is_over = record { valid = parent_valid; over = λ path v l. parent_under path v (not_root path l) }
