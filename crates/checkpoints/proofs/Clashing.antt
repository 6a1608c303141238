-- Which done entries clash with a path, told by those that were passed before it and by the first one that was not.
use Rattle.checkpoints.proofs.Prelude.{◌≡◌, ℕ, ◌<◌, Bool, true, false, not, ◌&&◌, ◌||◌, List, [], ◌∷◌, ◌++◌, length, refl, ap, ◌∙◌, sym, subst, cond, Option}
use Rattle.checkpoints.proofs.Prelude.{Some, AllByRecursion, list_any, is_lt, ordering_reverse, Less, false≢true, path_cmp, path_cmp_total, Entry, paths, is_in}
use Rattle.checkpoints.proofs.Prelude.{in_itself, is_open, clashes, Behind, AllBehind, covered, top_with, IsTop, closed_paths, closed_with, IsBelow, ArePassed}
use Rattle.checkpoints.proofs.Prelude.{StartsBehind, starts_in, moved, first_of, all_weaker, lt_is}
use Rattle.std.specs.List.Sorted.{IsStrictlySortedBy}
use Rattle.checkpoints.proofs.Tops.{between, behind_trans, behind_in, same_place, less_out, top_push}

-- ---- entries in path order

abbrev pub Ascend : List Entry → Type 0
Ascend es = IsStrictlySortedBy path_cmp (paths es)

less_behind : (x y : List ℕ) → path_cmp x y ≡ Less → Behind x y
less_behind x y l = ap is_lt (path_cmp_total.antisymm y x ∙ ap ordering_reverse l)

all_less : (x : List ℕ) (es : List Entry) → AllByRecursion (λ y. path_cmp x y ≡ Less) (paths es) → AllByRecursion (λ e. Behind x e.path) es
all_less x [] h = tt
all_less x (e ∷ es) h = (less_behind x e.path h.0, all_less x es h.1)

-- those that stand before one of them
before_one : (passed : List Entry) (e : Entry) (ahead : List Entry) → Ascend (passed ++ e ∷ ahead) → AllByRecursion (λ p. Behind p.path e.path) passed
unfolding IsStrictlySortedBy
before_one [] e ahead s = tt
before_one (p ∷ passed) e ahead s = (here passed s.0, before_one passed e ahead s.1)
  where
    here : (ps : List Entry) → AllByRecursion (λ y. path_cmp p.path y ≡ Less) (paths (ps ++ e ∷ ahead)) → Behind p.path e.path
    here [] h = less_behind p.path e.path h.0
    here (q ∷ ps) h = here ps h.1

ahead_ascend : (passed ahead : List Entry) → Ascend (passed ++ ahead) → Ascend ahead
unfolding IsStrictlySortedBy
ahead_ascend [] ahead s = s
ahead_ascend (p ∷ passed) ahead s = ahead_ascend passed ahead s.1

-- those that come behind the first
behind_first : (e : Entry) (es : List Entry) → Ascend (e ∷ es) → AllByRecursion (λ r. Behind e.path r.path) es
unfolding IsStrictlySortedBy
behind_first e es s = all_less e.path es s.0

-- ---- the closed entries

closed_behind : (y : List ℕ) (es : List Entry) → AllByRecursion (λ e. Behind e.path y) es → AllBehind (closed_paths es) y
closed_behind y [] h = tt
closed_behind y (e ∷ es) h = elim (is_open e) as (λ b. AllBehind (cond b (closed_paths es) (e.path ∷ closed_paths es)) y) [
  | true ↦ closed_behind y es h.1
  | false ↦ (h.0, closed_behind y es h.1)
]

closed_open : (es : List Entry) (e : Entry) → is_open e ≡ true → closed_paths (es ++ e ∷ []) ≡ closed_paths es
closed_open [] e o = ap (λ b. cond b [] (e.path ∷ [])) o
closed_open (p ∷ es) e o = ap (λ ps. cond (is_open p) ps (p.path ∷ ps)) (closed_open es e o)

closed_push : (es : List Entry) (e : Entry) → is_open e ≡ false → closed_paths (es ++ e ∷ []) ≡ closed_paths es ++ e.path ∷ []
closed_push [] e o = ap (λ b. cond b [] (e.path ∷ [])) o
closed_push (p ∷ es) e o = elim (is_open p) as (λ b. cond b (closed_paths (es ++ e ∷ [])) (p.path ∷ closed_paths (es ++ e ∷ []))
    ≡ cond b (closed_paths es) (p.path ∷ closed_paths es) ++ e.path ∷ []) [
      | true ↦ closed_push es e o
      | false ↦ ap (λ ps. p.path ∷ ps) (closed_push es e o)
    ]

closed_more : (es : List Entry) (top : Option (List ℕ)) (e : Entry) → IsTop (closed_paths es) top → AllByRecursion (λ p. Behind p.path e.path) es →
    IsTop (closed_paths (es ++ e ∷ [])) (closed_with top e)
closed_more es top e t h =
    elim (is_open e) as (λ b. is_open e ≡ b → IsTop (closed_paths (es ++ e ∷ [])) (cond b top (top_with top e.path))) [
      | true ↦ λ o. subst (λ ps. IsTop ps top) (sym (closed_open es e o)) t
      | false ↦ λ o. subst (λ ps. IsTop ps (top_with top e.path)) (sym (closed_push es e o))
          (top_push (closed_paths es) top e.path t (closed_behind e.path es h))
    ] refl

-- ---- one entry more is passed

all_push : (P : Entry → Type 0) (es : List Entry) (e : Entry) → AllByRecursion P es → P e → AllByRecursion P (es ++ e ∷ [])
all_push P [] e h p = (p, tt)
all_push P (x ∷ es) e h p = (h.0, all_push P es e h.1 p)

-- an entry that was looked at is passed
pub record IsNext (ahead : List Entry × List Entry) (e : Entry) (path : List ℕ) : Type 0 where
  pub ascend : IsStrictlySortedBy path_cmp (paths (ahead.0 ++ ahead.1))
  pub first : Some e ≡ first_of ahead.1
  pub before : is_lt (path_cmp e.path path) ≡ true
  pub some : 0 < length e.path

one_passed : (passed : List Entry) (e : Entry) (ahead : List Entry) (closed : Option (List ℕ)) (path : List ℕ) → Ascend (passed ++ e ∷ ahead) →
    path_cmp e.path path ≡ Less → 0 < length e.path → ArePassed passed closed path → ArePassed (passed ++ e ∷ []) (closed_with closed e) path
one_passed passed e ahead closed path s l some p = record {
  top = closed_more passed closed e p.top (before_one passed e ahead s);
  below = all_push (IsBelow path) passed e p.below (l, some);
}

next_passed : (passed ahead : List Entry) (e : Entry) (closed : Option (List ℕ)) (path : List ℕ) → IsNext (passed, ahead) e path →
    ArePassed passed closed path → ArePassed (moved passed ahead).0 (closed_with closed e) path
next_passed passed [] e closed path n p = absurd (cc (n.first))
next_passed passed (r ∷ ahead) e closed path n p =
    let same : e ≡ r = cc (n.first) in
    subst (λ (x : Entry). ArePassed (passed ++ x ∷ []) (closed_with closed e) path) same
    (one_passed passed e ahead closed path (subst (λ (x : Entry). Ascend (passed ++ x ∷ ahead)) (sym same) n.ascend)
    (lt_is (path_cmp e.path path) n.before) n.some p)

pub passed_more : (ahead : List Entry × List Entry) (e : Entry) (closed : Option (List ℕ)) (path : List ℕ) → IsNext ahead e path →
    ArePassed ahead.0 closed path → ArePassed (moved ahead.0 ahead.1).0 (closed_with closed e) path
passed_more ahead e closed path n p = next_passed ahead.0 ahead.1 e closed path n p

-- ---- which entries clash

any_append : (f : Entry → Bool) (xs ys : List Entry) → list_any f (xs ++ ys) ≡ (list_any f xs || list_any f ys)
any_append f [] ys = refl
any_append f (x ∷ xs) ys = ap (λ b. f x || b) (any_append f xs ys) ∙ regroup (f x) (list_any f xs) (list_any f ys)
  where
    regroup : (a b c : Bool) → (a || (b || c)) ≡ ((a || b) || c)
    regroup true b c = refl
    regroup false b c = refl

one_clash : (path : List ℕ) (e : Entry) (any : Bool) (closed : List (List ℕ)) → is_in e.path path ≡ false → any ≡ list_any (is_in path) closed →
    (clashes path e || any) ≡ list_any (is_in path) (cond (is_open e) closed (e.path ∷ closed))
one_clash path e any closed o h =
    ap (λ b. (b || (is_in path e.path && not (is_open e))) || any) o
    ∙ elim (is_open e) as (λ b. ((is_in path e.path && not b) || any) ≡ list_any (is_in path) (cond b closed (e.path ∷ closed))) [
      | true ↦ ap (λ b. b || any) (and_none (is_in path e.path)) ∙ h
      | false ↦ ap (λ b. b || any) (and_all (is_in path e.path)) ∙ ap (λ b. is_in path e.path || b) h
    ]
  where
    and_none : (a : Bool) → (a && false) ≡ false
    and_none true = refl
    and_none false = refl

    and_all : (a : Bool) → (a && true) ≡ a
    and_all true = refl
    and_all false = refl

clash_passed : (path : List ℕ) (es : List Entry) → AllByRecursion (IsBelow path) es → list_any (clashes path) es ≡ list_any (is_in path) (closed_paths es)
clash_passed path [] h = refl
clash_passed path (e ∷ es) h =
    one_clash path e (list_any (clashes path) es) (closed_paths es) (less_out e.path path h.0.1 h.0.0) (clash_passed path es h.1)

below_behind : (path : List ℕ) (es : List Entry) → AllByRecursion (IsBelow path) es → AllByRecursion (λ e. Behind e.path path) es
below_behind path es h = all_weaker (IsBelow path) (λ e. Behind e.path path) (λ e b. less_behind e.path path b.0) es h

or_less : (a b c : Bool) → (b ≡ true → a ≡ true) → (a || (b && c)) ≡ a
or_less true b c h = refl
or_less false true c h = absurd (false≢true (h refl))
or_less false false c h = refl

-- an entry that is not before the path clashes only where it is in the path
clash_behind : (path : List ℕ) (e : Entry) → 0 < length path → Behind path e.path → clashes path e ≡ is_in e.path path
clash_behind path e some n = or_less (is_in e.path path) (is_in path e.path) (not (is_open e)) (λ t.
    let same = same_place path e.path n (behind_in path e.path some t) in
    ap (λ p. is_in e.path p) same ∙ in_itself e.path)

starts_all : (path : List ℕ) (e : Entry) (es : List Entry) → 0 < length path → Behind path e.path → AllByRecursion (λ r. Behind e.path r.path) es →
    list_any (clashes path) es ≡ true → is_in e.path path ≡ true
starts_all path e [] some n h t = absurd (false≢true t)
starts_all path e (r ∷ es) some n h t =
    elim (clashes path r) as (λ b. clashes path r ≡ b → (b || list_any (clashes path) es) ≡ true → is_in e.path path ≡ true) [
      | true ↦ λ y t. between path e.path r.path n h.0 (sym (clash_behind path r some (behind_trans path e.path r.path n h.0)) ∙ y)
      | false ↦ λ f t. starts_all path e es some n h.1 t
    ] refl t

pub or_first : (a b : Bool) → (b ≡ true → a ≡ true) → (a || b) ≡ a
or_first true b h = refl
or_first false true h = absurd (false≢true (h refl))
or_first false false h = refl

clash_ahead : (path : List ℕ) (es : List Entry) → 0 < length path → StartsBehind path es → Ascend es → list_any (clashes path) es ≡ starts_in path es
clash_ahead path [] some n s = refl
clash_ahead path (e ∷ es) some n s =
    ap (λ b. b || list_any (clashes path) es) (clash_behind path e some n)
    ∙ or_first (is_in e.path path) (list_any (clashes path) es) (starts_all path e es some n (behind_first e es s))

-- a path, before which all entries were passed, clashes where the top covers it or the first entry ahead is in it
pub clash_is : (path : List ℕ) (ahead : List Entry × List Entry) (closed : Option (List ℕ)) → 0 < length path →
    IsStrictlySortedBy path_cmp (paths (ahead.0 ++ ahead.1)) → ArePassed ahead.0 closed path → StartsBehind path ahead.1 →
    (covered closed path || starts_in path ahead.1) ≡ list_any (clashes path) (ahead.0 ++ ahead.1)
clash_is path ahead closed some s p n =
    let before = clash_passed path ahead.0 p.below ∙ p.top.covers path (closed_behind path ahead.0 (below_behind path ahead.0 p.below)) in
    let behind = clash_ahead path ahead.1 some n (ahead_ascend ahead.0 ahead.1 s) in
    sym (any_append (clashes path) ahead.0 ahead.1 ∙ (λ i. before i || behind i))
