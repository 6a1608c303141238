-- Where pairs send paths: no two paths go to one target, and a target is under another one only where its path is under the other's.
use Rattle.tree_copy.proofs.Prelude.{◌≡◌, ◌⊎◌, ⊎_elim, ℕ, zero, suc, Bool, true, false, ◌||◌, List, [], ◌∷◌, ◌++◌, map, length, drop, Some, None, refl, ap, ◌∙◌}
use Rattle.tree_copy.proofs.Prelude.{sym, subst, arith, cond, slice_get, append_assoc, length-append, false≢true, or_parts, or_left, or_right, or_from}
use Rattle.tree_copy.proofs.Prelude.{append_cancel_left, list_any-append, recursion_from_All, All, AllByRecursion, list_any, bytes_decides, below_of, grafted}
use Rattle.tree_copy.proofs.Prelude.{front, is_under, is_within, refusal, below_undoes_graft, below_made, front_longer, front_other, graft_undoes_below}
use Rattle.tree_copy.proofs.Prelude.{grafted_names, front-joined, some_front, is_under_by, names_under, same_or_under, some_bytes, tops_are_nested}
use Rattle.tree_copy.proofs.Prelude.{under_longer, within_root, within_up, is_root, Pair, ends_of, target_of, IsPair, overlap, same_some}

-- tests

turned_or : (a b : Bool) → (a || b) ≡ false → (b || a) ≡ false
turned_or true b e = absurd (false≢true (sym e))
turned_or false true e = absurd (false≢true (sym e))
turned_or false false e = refl

pub at_of : {X : Type 0} (P : X → Type 0) (xs : List X) → AllByRecursion P xs → (k : ℕ) (x : X) → slice_get xs k ≡ Some x → P x
at_of P [] h zero x e = cc
at_of P [] h (suc k) x e = cc
at_of P (y ∷ xs) h zero x e = subst P (same_some y x e) h.0
at_of P (y ∷ xs) h (suc k) x e = at_of P xs h.1 k x e

pub all_at : {X : Type 0} (P : X → Type 0) (xs : List X) → All P xs → (k : ℕ) (x : X) → slice_get xs k ≡ Some x → P x
all_at P xs h = at_of P xs (recursion_from_All P xs h)

abbrev pub meets : List ℕ → List ℕ → Bool
meets a b = is_within a b || is_within b a

-- of two paths that another one is within, one is within the other
pub one_over : (a b t : List ℕ) → refusal a ≡ None → refusal b ≡ None → is_within t a ≡ true → is_within t b ≡ true → meets a b ≡ true
one_over a b t v w h g =
    ⊎_elim (or_left (is_within a b) (is_within b a)) (or_right (is_within a b) (is_within b a)) (tops_are_nested t a b v w h g)

-- sources, and targets, stand apart

any_out : (p : List ℕ → Bool) (xs ys : List (List ℕ)) (t : List ℕ) → list_any p (xs ++ t ∷ ys) ≡ false → (p t ≡ false) × (list_any p (xs ++ ys) ≡ false)
any_out p [] ys t h = or_parts (p t) (list_any p ys) h
any_out p (x ∷ xs) ys t h =
    let n = or_parts (p x) (list_any p (xs ++ t ∷ ys)) h in
    let r = any_out p xs ys t n.1 in
    (r.0, or_from (p x) (list_any p (xs ++ ys)) n.0 r.1)

take_out : (xs ys : List (List ℕ)) (t : List ℕ) → overlap (xs ++ t ∷ ys) ≡ false → (list_any (meets t) (xs ++ ys) ≡ false) × (overlap (xs ++ ys) ≡ false)
take_out [] ys t h = or_parts (list_any (meets t) ys) (overlap ys) h
take_out (x ∷ xs) ys t h =
    let n = or_parts (list_any (meets x) (xs ++ t ∷ ys)) (overlap (xs ++ t ∷ ys)) h in
    let o = any_out (meets x) xs ys t n.0 in
    let r = take_out xs ys t n.1 in (
      or_from (meets t x) (list_any (meets t) (xs ++ ys)) (turned_or (is_within x t) (is_within t x) o.0) r.0,
      or_from (list_any (meets x) (xs ++ ys))
          (overlap (xs ++ ys)) o.1 r.1,
    )

-- a first pair apart from the others
record IsApart (pair : Pair) (pairs : List Pair) : Type 0 where
  own : meets pair.source pair.target ≡ false
  sources : list_any (meets pair.source) (map (λ p. p.source) pairs) ≡ false
  targets : list_any (meets pair.target) (map (λ p. p.target) pairs) ≡ false
  rest : overlap (ends_of pairs) ≡ false

first_apart : (pair : Pair) (pairs : List Pair) → overlap (ends_of (pair ∷ pairs)) ≡ false → IsApart pair pairs
first_apart pair pairs h =
    let s = map (λ (p : Pair). p.source) pairs in
    let t = map (λ (p : Pair). p.target) pairs in
    let n = or_parts (list_any (meets pair.source) (s ++ pair.target ∷ t)) (overlap (s ++ pair.target ∷ t)) h in
    let o = any_out (meets pair.source) s t pair.target n.0 in
    let r = take_out s t pair.target n.1 in
    record {
      own = o.0;
      sources = (or_parts (list_any (meets pair.source) s) (list_any (meets pair.source) t) (sym (list_any-append (meets pair.source) s t) ∙ o.1)).0;
      targets = (or_parts (list_any (meets pair.target) s) (list_any (meets pair.target) t) (sym (list_any-append (meets pair.target) s t) ∙ r.0)).1;
      rest = r.1;
    }

-- each end of one kind is apart from those behind it
abbrev Alone : (Pair → List ℕ) → List Pair → Type 0
Alone f [] = Unit {0}
Alone f (pair ∷ pairs) = (list_any (meets (f pair)) (map f pairs) ≡ false) × Alone f pairs

sources_alone : (pairs : List Pair) → overlap (ends_of pairs) ≡ false → Alone (λ p. p.source) pairs
sources_alone [] h = tt
sources_alone (pair ∷ pairs) h = let a = first_apart pair pairs h in (a.sources, sources_alone pairs a.rest)

targets_alone : (pairs : List Pair) → overlap (ends_of pairs) ≡ false → Alone (λ p. p.target) pairs
targets_alone [] h = tt
targets_alone (pair ∷ pairs) h = let a = first_apart pair pairs h in (a.targets, targets_alone pairs a.rest)

pub own_apart : (pairs : List Pair) → overlap (ends_of pairs) ≡ false → (k : ℕ) (pair : Pair) → slice_get pairs k ≡ Some pair →
    meets pair.source pair.target ≡ false
own_apart [] h zero pair e = cc
own_apart [] h (suc k) pair e = cc
own_apart (p ∷ pairs) h zero pair e = subst (λ q. meets q.source q.target ≡ false) (same_some p pair e) (first_apart p pairs h).own
own_apart (p ∷ pairs) h (suc k) pair e = own_apart pairs (first_apart p pairs h).rest k pair e

pub met : (f : Pair → List ℕ) (x : List ℕ) (pairs : List Pair) (k : ℕ) (p : Pair) → slice_get pairs k ≡ Some p → meets x (f p) ≡ true →
    list_any (meets x) (map f pairs) ≡ true
met f x [] zero p e m = cc
met f x [] (suc k) p e m = cc
met f x (q ∷ pairs) zero p e m = or_left (meets x (f q)) (list_any (meets x) (map f pairs)) (subst (λ r. meets x (f r) ≡ true) (sym (same_some q p e)) m)
met f x (q ∷ pairs) (suc k) p e m = or_right (meets x (f q)) (list_any (meets x) (map f pairs)) (met f x pairs k p e m)

swapped : (a b : Bool) → (a || b) ≡ true → (b || a) ≡ true
swapped true true e = refl
swapped true false e = refl
swapped false b e = or_left b false e

one_place : (f : Pair → List ℕ) (pairs : List Pair) → Alone f pairs → (i j : ℕ) (p q : Pair) → slice_get pairs i ≡ Some p → slice_get pairs j ≡ Some q →
    meets (f p) (f q) ≡ true → i ≡ j
one_place f [] a zero j p q d e m = cc
one_place f [] a (suc i) j p q d e m = cc
one_place f (r ∷ pairs) a zero zero p q d e m = refl
one_place f (r ∷ pairs) a zero (suc j) p q d e m =
    absurd (false≢true (sym a.0 ∙ met f (f r) pairs j q e (subst (λ s. meets (f s) (f q) ≡ true) (sym (same_some r p d)) m)))
one_place f (r ∷ pairs) a (suc i) zero p q d e m =
    absurd (false≢true (sym a.0
    ∙ met f (f r) pairs i p d
    (subst (λ s. meets (f s) (f p) ≡ true) (sym (same_some r q e)) (swapped (is_within (f p) (f q)) (is_within (f q) (f p)) m))))
one_place f (r ∷ pairs) a (suc i) (suc j) p q d e m = ap suc (one_place f pairs a.1 i j p q d e m)

same_pair : (f : Pair → List ℕ) (pairs : List Pair) → Alone f pairs → (i j : ℕ) (p q : Pair) → slice_get pairs i ≡ Some p → slice_get pairs j ≡ Some q →
    meets (f p) (f q) ≡ true → p ≡ q
same_pair f pairs a i j p q d e m = same_some p q (sym d ∙ ap (slice_get pairs) (one_place f pairs a i j p q d e m) ∙ e)

-- the pair that a path goes with

pub record Goes (pairs : List Pair) (x : List ℕ) : Type 0 where
  pub place : ℕ
  pub pair : Pair
  pub at : slice_get pairs place ≡ Some pair
  pub within : is_within x pair.source ≡ true
  pub is : target_of pairs x ≡ grafted pair.target (below_of x pair.source)

pub goes : (pairs : List Pair) (x : List ℕ) → list_any (λ pair. is_within x pair.source) pairs ≡ true → Goes pairs x
goes [] x h = absurd (false≢true h)
goes (p ∷ pairs) x h = by (λ later. goes pairs x later) (is_within x p.source) refl h
  where
    by : (list_any (λ (pair : Pair). is_within x pair.source) pairs ≡ true → Goes pairs x) → (b : Bool) → is_within x p.source ≡ b →
        (b || list_any (λ (pair : Pair). is_within x pair.source) pairs) ≡ true → Goes (p ∷ pairs) x
    by more true e h = record {
      place = 0;
      pair = p;
      at = refl;
      within = e;
      is = ap (λ b. cond b (grafted p.target (below_of x p.source)) (target_of pairs x)) e;
    }
    by more false e h =
        let g = more h in
        record {
          place = suc g.place;
          pair = g.pair;
          at = g.at;
          within = g.within;
          is = ap (λ b. cond b (grafted p.target (below_of x p.source)) (target_of pairs x)) e ∙ g.is;
        }

-- pairs that are paths and stand apart
pub record Fine (pairs : List Pair) : Type 0 where
  pub apart : overlap (ends_of pairs) ≡ false
  pub valid : All IsPair pairs

any_here : (x : List ℕ) (pairs : List Pair) (k : ℕ) (p : Pair) → slice_get pairs k ≡ Some p → is_within x p.source ≡ true →
    list_any (λ (pair : Pair). is_within x pair.source) pairs ≡ true
any_here x [] zero p e m = cc
any_here x [] (suc k) p e m = cc
any_here x (q ∷ pairs) zero p e m = or_left (is_within x q.source) (list_any (λ (pair : Pair). is_within x pair.source) pairs)
    (subst (λ (r : Pair). is_within x r.source ≡ true) (sym (same_some q p e)) m)
any_here x (q ∷ pairs) (suc k) p e m = or_right (is_within x q.source) (list_any (λ (pair : Pair). is_within x pair.source) pairs) (any_here x pairs k p e m)

-- the pair whose source a path is within is the only one
pub target_by : (pairs : List Pair) → Fine pairs → (x : List ℕ) (k : ℕ) (p : Pair) → slice_get pairs k ≡ Some p → is_within x p.source ≡ true →
    target_of pairs x ≡ grafted p.target (below_of x p.source)
target_by pairs f x k p e h =
    let g = goes pairs x (any_here x pairs k p e h) in
    let m = one_over g.pair.source p.source x (all_at IsPair pairs f.valid g.place g.pair g.at).source (all_at IsPair pairs f.valid k p e).source g.within h in
    let same = same_pair (λ q. q.source) pairs (sources_alone pairs f.apart) g.place k g.pair p g.at e m in
    g.is ∙ ap (λ (q : Pair). grafted q.target (below_of x q.source)) same

-- what is behind the top

grafted_some : (t : List ℕ) (b : ℕ) (n : List ℕ) → grafted t (47 ∷ b ∷ n) ≡ front t ++ b ∷ n
grafted_some t b n = grafted_names t (b ∷ n) (omega arith) ∙ sym (front-joined t (b ∷ n))

-- what is under another path behind one top is so behind any
moved_under : (s t m n : List ℕ) → is_under (grafted t (47 ∷ m)) (grafted t (47 ∷ n)) ≡ true →
    is_under (grafted s (47 ∷ m)) (grafted s (47 ∷ n)) ≡ true
moved_under s t [] [] h = absurd (omega (arith, under_longer t t h))
moved_under s t [] (b ∷ n) h =
    absurd (omega (arith, under_longer t (grafted t (47 ∷ b ∷ n)) h, ap length (grafted_some t b n), length-append (front t) (b ∷ n), front_longer t))
moved_under s t (a ∷ m) [] h = is_under_by (grafted s (47 ∷ a ∷ m)) s (a ∷ m) (grafted_some s a m) (omega arith)
moved_under s t (a ∷ m) (b ∷ n) h =
    let u = names_under (grafted t (47 ∷ a ∷ m)) (grafted t (47 ∷ b ∷ n)) h in
    let whole : front t ++ (a ∷ m) ≡ front t ++ ((b ∷ n) ++ 47 ∷ u.names) =
    sym (grafted_some t a m) ∙ u.whole ∙ ap (λ r. r ++ u.names) (fronted t) ∙ append_assoc (front t ++ b ∷ n) (47 ∷ []) u.names
    ∙ append_assoc (front t) (b ∷ n) (47 ∷ u.names)
    in
    let names = append_cancel_left (front t) (a ∷ m) ((b ∷ n) ++ 47 ∷ u.names) whole in
    let moved : grafted s (47 ∷ a ∷ m) ≡ front (grafted s (47 ∷ b ∷ n)) ++ u.names =
    grafted_some s a m ∙ ap (λ r. front s ++ r) names ∙ sym (append_assoc (front s) (b ∷ n) (47 ∷ u.names))
    ∙ sym (append_assoc (front s ++ b ∷ n) (47 ∷ []) u.names)
    ∙ sym (ap (λ r. r ++ u.names) (fronted s))
    in
    is_under_by (grafted s (47 ∷ a ∷ m)) (grafted s (47 ∷ b ∷ n)) u.names moved u.some
  where
    fronted : (t : List ℕ) → front (grafted t (47 ∷ b ∷ n)) ≡ (front t ++ b ∷ n) ++ 47 ∷ []
    fronted t = ap front (grafted_some t b n) ∙ front_other (front t ++ b ∷ n) (λ l. absurd (omega (arith, l, length-append (front t) (b ∷ n), some_front t)))

-- what is so of the targets of paths

module _ (pairs : List Pair) (f : Fine pairs) where
  top_valid : (x : List ℕ) (g : Goes pairs x) → IsPair g.pair
  top_valid x g = all_at IsPair pairs f.valid g.place g.pair g.at

  rest_valid : (x : List ℕ) (g : Goes pairs x) → refusal x ≡ None → refusal (below_of x g.pair.source) ≡ None
  rest_valid x g v = below_made x g.pair.source (below_of x g.pair.source) refl v g.within

  pub in_top : (x : List ℕ) (g : Goes pairs x) → refusal x ≡ None → is_within (target_of pairs x) g.pair.target ≡ true
  in_top x g v = subst (λ t. is_within t g.pair.target ≡ true) (sym g.is) (below_undoes_graft.within g.pair.target (below_of x g.pair.source)
      (rest_valid x g v))

  one_pair : (x y t : List ℕ) (g : Goes pairs x) (h : Goes pairs y) → is_within t g.pair.target ≡ true → is_within t h.pair.target ≡ true → h.pair ≡ g.pair
  one_pair x y t g h v w =
      same_pair (λ p. p.target) pairs (targets_alone pairs f.apart) h.place g.place h.pair g.pair h.at g.at
      (one_over h.pair.target g.pair.target t (top_valid y h).target (top_valid x g).target w v)

  -- no two paths go to one target
  pub one_path : (x y : List ℕ) → Goes pairs x → Goes pairs y → refusal x ≡ None → refusal y ≡ None → target_of pairs x ≡ target_of pairs y → x ≡ y
  one_path x y g h v w e =
      let p = g.pair in
      let same = one_pair x y (target_of pairs x) g h (in_top x g v) (subst (λ t. is_within t h.pair.target ≡ true) (sym e) (in_top y h w)) in
      let there : is_within y p.source ≡ true = subst (λ (q : Pair). is_within y q.source ≡ true) same h.within in
      let moved : grafted p.target (below_of x p.source) ≡ grafted p.target (below_of y p.source) = sym g.is ∙ e ∙ h.is
      ∙ ap (λ (q : Pair). grafted q.target (below_of y q.source)) same in
      let fine : refusal (below_of y p.source) ≡ None = below_made y p.source (below_of y p.source) refl w there in
      let below : below_of x p.source ≡ below_of y p.source =
      sym (below_undoes_graft.back p.target (below_of x p.source) (rest_valid x g v)) ∙ ap (λ t. below_of t p.target) moved
      ∙ below_undoes_graft.back p.target (below_of y p.source) fine
      in
      sym (graft_undoes_below x p.source g.within) ∙ ap (grafted p.source) below ∙ graft_undoes_below y p.source there

  -- a target is under another one only where its path is under the other's
  pub under_kept : (x y : List ℕ) → Goes pairs x → Goes pairs y → refusal x ≡ None → refusal y ≡ None → is_under (target_of pairs x) (target_of pairs y) ≡
      true → is_under x y ≡ true
  under_kept x y g h v w u =
      let p = g.pair in
      let t = target_of pairs x in
      let over : is_within t h.pair.target ≡ true =
      within_up t (target_of pairs y) h.pair.target u (in_top y h w)
      in
      let same = one_pair x y t g h (in_top x g v) over in
      let there : is_within y p.source ≡ true = subst (λ (q : Pair). is_within y q.source ≡ true) same h.within in
      let is : target_of pairs y ≡ grafted p.target (below_of y p.source) = h.is ∙ ap (λ (q : Pair). grafted q.target (below_of y q.source)) same in
      let moved = moved_under p.source p.target (drop (length (front p.source)) x) (drop (length (front p.source)) y)
      (subst (λ r. is_under r (grafted p.target (below_of y p.source)) ≡ true) g.is (subst (λ r. is_under t r ≡ true) is u)) in
      subst (λ r. is_under r y ≡ true) (graft_undoes_below x p.source g.within) (subst (λ r. is_under (grafted p.source (below_of x p.source)) r ≡ true)
      (graft_undoes_below y p.source there) moved)

  -- no target is `/`
  pub no_root : (x : List ℕ) → Goes pairs x → refusal x ≡ None → is_root (target_of pairs x) ≡ false
  no_root x g v = by (is_root (target_of pairs x)) refl
    where
      by : (b : Bool) → is_root (target_of pairs x) ≡ b → b ≡ false
      by false e = refl
      by true e =
          let p = g.pair in
          let is = (bytes_decides (target_of pairs x) (47 ∷ [])).0 e in
          let over : is_within (47 ∷ []) p.target ≡ true = subst (λ t. is_within t p.target ≡ true) is (in_top x g v) in
          absurd (false≢true (sym (own_apart pairs f.apart g.place p g.at) ∙ or_left (is_within p.source p.target) (is_within p.target p.source)
          (⊎_elim (λ e. subst (λ t. is_within p.source t ≡ true) e (within_root p.source (top_valid x g).source))
          (λ u. absurd (omega (arith, under_longer (47 ∷ []) p.target u, some_bytes p.target (top_valid x g).target)))
          (same_or_under (47 ∷ []) p.target over))))
