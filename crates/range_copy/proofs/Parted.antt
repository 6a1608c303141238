-- The parts of a list: nothing stands under a large file, and no target of a large file is another entry's, or the parent of one.
use Rattle.range_copy.proofs.Prelude.{◌≡◌, ◌≢◌, ⊎_elim, ℕ, Bool, true, false, not, cond, ◌||◌, ◌&&◌, List, [], ◌∷◌, map, length, Option, Some, None, refl, ap}
use Rattle.range_copy.proofs.Prelude.{◌∙◌, sym, subst, arith, nat_eq, is_some, false≢true, not-true, false_from_ne_true, All-from_recursion, recursion_from_All}
use Rattle.range_copy.proofs.Prelude.{AllByRecursion, list_any, pointwise, bytes_decides, Less, ParentMovesToo, below_of, grafted, IsPreorder, ParentIsOver}
use Rattle.range_copy.proofs.Prelude.{UnderIsContiguous, is_under, is_within, path_cmp, parent_of, refusal, grafted_itself, parent_under, one_way}
use Rattle.range_copy.proofs.Prelude.{same_or_under, some_bytes, under_longer, is_root, Stat, is_of, paths, Entry, CanCopy, is_target, target_of, treated, Pair}
use Rattle.range_copy.proofs.Prelude.{IsPair, Fine, Goes, all_at, no_root, one_path, target_by, under_kept, together, Ascend, ascends, is_target_of, exceeds}
use Rattle.range_copy.proofs.Prelude.{has_under, is_large, large_of, small_of}
use Rattle.std.specs.List.Sorted.{IsStrictlySortedBy}
use Rattle.outside.specs.declared.trees.Kind.TheVariants as kind

-- what is so of all entries is so of each part

pub small_all : (P : Entry → Type 0) (piece : ℕ) (es : List Entry) → AllByRecursion P es → AllByRecursion P (small_of piece es)
small_all P piece [] h = tt
small_all P piece (e ∷ rest) h =
    elim (is_large piece e rest) as (λ b. AllByRecursion P (cond b (small_of piece rest) (e ∷ small_of piece rest)))
    [ true ↦ small_all P piece rest h.1 | false ↦ (h.0, small_all P piece rest h.1) ]

pub large_all : (P : Entry → Type 0) (piece : ℕ) (es : List Entry) → AllByRecursion P es → AllByRecursion P (large_of piece es)
large_all P piece [] h = tt
large_all P piece (e ∷ rest) h =
    elim (is_large piece e rest) as (λ b. AllByRecursion P (cond b (e ∷ large_of piece rest) (large_of piece rest)))
    [ true ↦ (h.0, large_all P piece rest h.1) | false ↦ large_all P piece rest h.1 ]

-- a large file has a stat, and exceeds the piece

and_left : (a b : Bool) → (a && b) ≡ true → a ≡ true
and_left true b e = refl
and_left false b e = absurd (false≢true e)

and_right : (a b : Bool) → (a && b) ≡ true → b ≡ true
and_right true b e = e
and_right false b e = absurd (false≢true e)

pub has_stat : (piece : ℕ) (e : Entry) (rest : List Entry) → is_large piece e rest ≡ true → is_some e.stat ≡ true
has_stat piece e rest l = by e.stat (and_left _ _ (and_left (exceeds piece e) (not (has_under e rest)) l))
  where
    by : (s : Option Stat) → is_of kind.File s ≡ true → is_some s ≡ true
    by None h = absurd (false≢true h)
    by (Some s) h = refl

pub all_exceed : (piece : ℕ) (es : List Entry) → AllByRecursion (λ e. exceeds piece e ≡ true) (large_of piece es)
all_exceed piece [] = tt
all_exceed piece (e ∷ rest) =
    elim (is_large piece e rest) as (λ b. is_large piece e rest ≡ b → AllByRecursion (λ e. exceeds piece e ≡ true) (cond b (e ∷ large_of piece rest)
    (large_of piece rest))) [
      | true ↦ λ l. (and_left (exceeds piece e) (not (has_under e rest)) l, all_exceed piece rest)
      | false ↦ λ l. all_exceed piece rest
    ] refl

pub treated_large : (P : Entry → Type 0) (piece : ℕ) (es : List Entry) → AllByRecursion P (treated es) → AllByRecursion P (large_of piece es)
treated_large P piece [] h = tt
treated_large P piece (e ∷ rest) h =
    elim (is_large piece e rest) as (λ b. is_large piece e rest ≡ b → AllByRecursion P (cond b (e ∷ large_of piece rest) (large_of piece rest))) [
      | true ↦ λ l.
          let own = subst (λ s. AllByRecursion P (cond s (e ∷ treated rest) (treated rest))) (has_stat piece e rest l) h in
          (own.0, treated_large P piece rest own.1)
      | false ↦ λ l. treated_large P piece rest (later h)
    ] refl
  where
    later : AllByRecursion P (treated (e ∷ rest)) → AllByRecursion P (treated rest)
    later h = elim (is_some e.stat) as (λ s. AllByRecursion P (cond s (e ∷ treated rest) (treated rest)) → AllByRecursion P (treated rest))
        [ true ↦ λ k. k.1 | false ↦ λ k. k ] h

pub treated_small : (P : Entry → Type 0) (piece : ℕ) (es : List Entry) → AllByRecursion P (treated es) → AllByRecursion P (treated (small_of piece es))
treated_small P piece [] h = tt
treated_small P piece (e ∷ rest) h =
    let more = treated_small P piece rest in
    elim (is_large piece e rest) as (λ b. AllByRecursion P (treated (cond b (small_of piece rest) (e ∷ small_of piece rest)))) [
      | true ↦ more (later (is_some e.stat) h)
      | false ↦ both (is_some e.stat) more h
    ]
  where
    later : (s : Bool) → AllByRecursion P (cond s (e ∷ treated rest) (treated rest)) → AllByRecursion P (treated rest)
    later true k = k.1
    later false k = k

    both : (s : Bool) → (AllByRecursion P (treated rest) → AllByRecursion P (treated (small_of piece rest))) →
        AllByRecursion P (cond s (e ∷ treated rest) (treated rest)) →
        AllByRecursion P (cond s (e ∷ treated (small_of piece rest)) (treated (small_of piece rest)))
    both true more k = (k.0, more k.1)
    both false more k = more k

-- what holds of one of the treated entries holds of a small one or of a large one

any_left : (a s g : Bool) → (a || (s || g)) ≡ (s || (a || g))
any_left true true g = refl
any_left true false g = refl
any_left false s g = refl

any_right : (a s g : Bool) → (a || (s || g)) ≡ ((a || s) || g)
any_right true s g = refl
any_right false s g = refl

pub split_any : (q : Entry → Bool) (piece : ℕ) (es : List Entry) →
    list_any q (treated es) ≡ (list_any q (treated (small_of piece es)) || list_any q (large_of piece es))
split_any q piece [] = refl
split_any q piece (e ∷ rest) =
    let h = split_any q piece rest in
    elim (is_large piece e rest) as (λ b. is_large piece e rest ≡ b → list_any q (treated (e ∷ rest)) ≡
    (list_any q (treated (cond b (small_of piece rest) (e ∷ small_of piece rest)))
    || list_any q (cond b (e ∷ large_of piece rest) (large_of piece rest)))) [
      | true ↦ λ l. ap (λ s. list_any q (cond s (e ∷ treated rest) (treated rest))) (has_stat piece e rest l)
          ∙ ap (λ r. q e || r) h ∙ any_left (q e) (list_any q (treated (small_of piece rest))) (list_any q (large_of piece rest))
      | false ↦ λ l. by (is_some e.stat) h
    ] refl
  where
    by : (s : Bool) → list_any q (treated rest) ≡ (list_any q (treated (small_of piece rest)) || list_any q (large_of piece rest)) →
        list_any q (cond s (e ∷ treated rest) (treated rest)) ≡
        (list_any q (cond s (e ∷ treated (small_of piece rest)) (treated (small_of piece rest))) || list_any q (large_of piece rest))
    by true h = ap (λ r. q e || r) h ∙ any_right (q e) (list_any q (treated (small_of piece rest))) (list_any q (large_of piece rest))
    by false h = h

pub any_map : {X Y : Type 0} (f : X → Y) (q : Y → Bool) (xs : List X) → list_any q (map f xs) ≡ list_any (λ x. q (f x)) xs
any_map f q [] = refl
any_map f q (x ∷ xs) = ap (λ r. q (f x) || r) (any_map f q xs)

pub target_in_parts : (pairs : List Pair) (piece : ℕ) (es : List Entry) (q : List ℕ) →
    is_target pairs es q ≡ (is_target pairs (small_of piece es) q || is_target_of pairs (large_of piece es) q)
target_in_parts pairs piece es q =
    any_map (λ (e : Entry). target_of pairs e.path) (pointwise nat_eq q) (treated es)
    ∙ split_any (λ e. pointwise nat_eq q (target_of pairs e.path)) piece es
    ∙ ap (λ r. r || is_target_of pairs (large_of piece es) q)
    (sym (any_map (λ (e : Entry). target_of pairs e.path) (pointwise nat_eq q) (treated (small_of piece es))))

-- entries that ascend

below : (p : List ℕ) (es : List Entry) → AllByRecursion (λ e. path_cmp p e.path ≡ Less) es → AllByRecursion (λ q. path_cmp p q ≡ Less) (paths es)
below p [] h = tt
below p (e ∷ es) h = (h.0, below p es h.1)

pub sorted : (es : List Entry) → Ascend es → IsStrictlySortedBy path_cmp (paths es)
unfolding IsStrictlySortedBy
sorted [] s = tt
sorted (e ∷ es) s = (below e.path es s.0, sorted es s.1)

pub small_ascend : (piece : ℕ) (es : List Entry) → Ascend es → Ascend (small_of piece es)
small_ascend piece [] s = tt
small_ascend piece (e ∷ rest) s =
    elim (is_large piece e rest) as (λ b. Ascend (cond b (small_of piece rest) (e ∷ small_of piece rest))) [
      | true ↦ small_ascend piece rest s.1
      | false ↦ (small_all (λ f. path_cmp e.path f.path ≡ Less) piece rest s.0, small_ascend piece rest s.1)
    ]

pub large_ascend : (piece : ℕ) (es : List Entry) → Ascend es → Ascend (large_of piece es)
large_ascend piece [] s = tt
large_ascend piece (e ∷ rest) s =
    elim (is_large piece e rest) as (λ b. Ascend (cond b (e ∷ large_of piece rest) (large_of piece rest))) [
      | true ↦ (large_all (λ f. path_cmp e.path f.path ≡ Less) piece rest s.0, large_ascend piece rest s.1)
      | false ↦ large_ascend piece rest s.1
    ]

pub can_small : (piece : ℕ) (es : List Entry) (pairs : List Pair) → CanCopy es pairs → CanCopy (small_of piece es) pairs
can_small piece es pairs c =
    let In : Entry → Type 0 = λ e. list_any (λ (pair : Pair). is_within e.path pair.source) pairs ≡ true in
    record {
      ascend = sorted (small_of piece es) (small_ascend piece es (ascends es c.ascend));
      in_source = All-from_recursion In (small_of piece es) (small_all In piece es (recursion_from_All In es c.in_source));
      apart = c.apart;
    }

-- two paths differ either way round
pub turned_off : (a b : List ℕ) → pointwise nat_eq a b ≡ false → pointwise nat_eq b a ≡ false
turned_off a b off = false_from_ne_true (pointwise nat_eq b a) (λ same. false≢true (sym off ∙ (bytes_decides a b).1 (sym ((bytes_decides b a).0 same))))

-- nothing stands under a large file

abbrev Valid : Entry → Type 0
Valid e = refusal e.path ≡ None

module _ (order : IsPreorder) (near : UnderIsContiguous) where
  not_above : (x l : List ℕ) → path_cmp x l ≡ Less → is_under x l ≡ false
  not_above x l less = false_from_ne_true (is_under x l) (λ u. one_way x l less (order.top_down x l u))

  not_itself : (x : List ℕ) → is_under x x ≡ false
  not_itself x = false_from_ne_true (is_under x x) (λ u. absurd (omega (arith, under_longer x x u)))

  behind : (x h : Entry) → Valid x → Valid h → path_cmp x.path h.path ≡ Less → is_under h.path x.path ≡ false → (es : List Entry) →
      AllByRecursion (λ e. path_cmp h.path e.path ≡ Less) es → AllByRecursion (λ e. is_under e.path x.path ≡ false) es
  behind x h v w less off [] a = tt
  behind x h v w less off (e ∷ es) a = (
    false_from_ne_true (is_under e.path x.path) (λ u. false≢true (sym off ∙ near.between x.path h.path e.path v w less a.0 u)),
    behind x h v w less off es a.1,
  )

  after : (piece : ℕ) (x : Entry) (rest : List Entry) → Ascend (x ∷ rest) → AllByRecursion Valid (x ∷ rest) → is_large piece x rest ≡ true →
      AllByRecursion (λ e. is_under e.path x.path ≡ false) rest
  after piece x [] s v l = tt
  after piece x (h ∷ rest) s v l =
      let off = not-true (is_under h.path x.path) (and_right (exceeds piece x) (not (is_under h.path x.path)) l) in
      (off, behind x h v.0 v.1.0 s.0.0 off rest s.1.0)

  pub none_under : (piece : ℕ) (es : List Entry) → Ascend es → AllByRecursion Valid es →
      AllByRecursion (λ l. AllByRecursion (λ e. is_under e.path l.path ≡ false) es) (large_of piece es)
  none_under piece [] s v = tt
  none_under piece (x ∷ rest) s v =
      let tail = together (λ (l : Entry). path_cmp x.path l.path ≡ Less) (λ (l : Entry). AllByRecursion (λ (e : Entry). is_under e.path l.path ≡ false) rest)
      (λ (l : Entry). AllByRecursion (λ (e : Entry). is_under e.path l.path ≡ false) (x ∷ rest)) (large_of piece rest)
      (λ l less all. (not_above x.path l.path less, all))
      (large_all (λ l. path_cmp x.path l.path ≡ Less) piece rest s.0) (none_under piece rest s.1 v.1) in
      elim (is_large piece x rest) as (λ b. is_large piece x rest ≡ b →
      AllByRecursion (λ (l : Entry). AllByRecursion (λ (e : Entry). is_under e.path l.path ≡ false) (x ∷ rest)) (cond b (x ∷ large_of piece rest)
      (large_of piece rest))) [
        | true ↦ λ l. ((not_itself x.path, after piece x rest s v l), tail)
        | false ↦ λ l. tail
      ] refl

-- where the parent of a target is a target, the one path is under the other
pub over_target : ParentMovesToo → ParentIsOver → (pairs : List Pair) → Fine pairs → (e l : List ℕ) → Goes pairs e → Goes pairs l → refusal e ≡ None →
    refusal l ≡ None → target_of pairs l ≡ parent_of (target_of pairs e) → is_under e l ≡ true
over_target moves over pairs f e l g h v w is =
    ⊎_elim top lower (same_or_under e g.pair.source g.within)
  where
    p : Pair
    p = g.pair

    ends : IsPair p
    ends = all_at IsPair pairs f.valid g.place g.pair g.at

    top : e ≡ p.source → is_under e l ≡ true
    top same =
        let whole : target_of pairs e ≡ p.target = g.is ∙ ap (λ x. grafted p.target (below_of x p.source)) same ∙ grafted_itself p.target p.source in
        let low = ap is_root (sym whole) ∙ no_root pairs f e g v in
        let up : is_under p.target (parent_of p.target) ≡ true = parent_under p.target ends.target low in
        under_kept pairs f e l g h v w
        (subst (λ t. is_under (target_of pairs e) t ≡ true) (sym is) (subst (λ t. is_under t (parent_of t) ≡ true) (sym whole) up))

    lower : is_under e p.source ≡ true → is_under e l ≡ true
    lower u =
        let inside = moves.within e p.source v ends.source u in
        let q = parent_of e in
        let there : target_of pairs q ≡ grafted p.target (below_of q p.source) = target_by pairs f q g.place g.pair g.at inside in
        let same : target_of pairs l ≡ target_of pairs q = is ∙ ap parent_of g.is ∙ moves.moved e p.source p.target v ends.source ends.target u ∙ sym there in
        let long : length e ≢ 1 = λ one. absurd (omega (arith, under_longer e p.source u, some_bytes p.source ends.source, one)) in
        let path : l ≡ q = one_path pairs f l q h (record { place = g.place; pair = g.pair; at = g.at; within = inside; is = there }) w (over.valid e v) same in
        subst (λ x. is_under e x ≡ true) (sym path) (over.over e v long)
