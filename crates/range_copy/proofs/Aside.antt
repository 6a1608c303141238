-- The targets of large files are no sources, no parents of targets, and no other entry's targets.
use Rattle.range_copy.proofs.Prelude.{◌≡◌, ℕ, zero, suc, Bool, true, false, cond, ◌||◌, List, [], ◌∷◌, ◌++◌, map, Some, None, refl, ap, ◌∙◌, sym, subst, nat_eq}
use Rattle.range_copy.proofs.Prelude.{slice_get, false≢true, or_parts, false_from_ne_true, AllByRecursion, list_any, pointwise, bytes_decides, Less, is_within}
use Rattle.range_copy.proofs.Prelude.{path_cmp, parent_of, refusal, below_of, below_undoes_graft, below_made, one_way, Entry, target_of, IsPair, overlap, Pair}
use Rattle.range_copy.proofs.Prelude.{Fine, Goes, all_at, at_of, meets, no_root, one_over, one_path, weaker, Ascend, once, AreApart, is_target_of, is_large}
use Rattle.range_copy.proofs.Prelude.{large_of, small_of, map_get}
use Rattle.range_copy.proofs.Fitted.{Free, Known}
use Rattle.range_copy.proofs.Parted.{large_all, small_all}

-- a source and a target of any two pairs are apart

any_append : {X : Type 0} (q : X → Bool) (xs ys : List X) → list_any q (xs ++ ys) ≡ false → list_any q ys ≡ false
any_append q [] ys h = h
any_append q (x ∷ xs) ys h = any_append q xs ys (or_parts (q x) (list_any q (xs ++ ys)) h).1

pub any_at : {X : Type 0} (q : X → Bool) (xs : List X) (k : ℕ) (x : X) → list_any q xs ≡ false → slice_get xs k ≡ Some x → q x ≡ false
any_at q [] zero x h e = cc
any_at q [] (suc k) x h e = cc
any_at q (y ∷ xs) zero x h e = let same : y ≡ x = cc in ap q (sym same) ∙ (or_parts (q y) (list_any q xs) h).0
any_at q (y ∷ xs) (suc k) x h e = any_at q xs k x (or_parts (q y) (list_any q xs) h).1 e

across : (xs ys : List (List ℕ)) (i j : ℕ) (x y : List ℕ) → overlap (xs ++ ys) ≡ false → slice_get xs i ≡ Some x → slice_get ys j ≡ Some y → meets x y ≡ false
across [] ys zero j x y h e g = cc
across [] ys (suc i) j x y h e g = cc
across (z ∷ xs) ys zero j x y h e g =
    let same : z ≡ x = cc in
    ap (λ w. meets w y) (sym same) ∙ any_at (meets z) ys j y (any_append (meets z) xs ys (or_parts (list_any (meets z) (xs ++ ys)) (overlap (xs ++ ys)) h).0) g
across (z ∷ xs) ys (suc i) j x y h e g = across xs ys i j x y (or_parts (list_any (meets z) (xs ++ ys)) (overlap (xs ++ ys)) h).1 e g

-- entries of two parts, and two large ones, have other paths

differ : (a b : List ℕ) → path_cmp a b ≡ Less → pointwise nat_eq a b ≡ false
differ a b less = false_from_ne_true (pointwise nat_eq a b) (λ same.
    let is = (bytes_decides a b).0 same in
    one_way a a (ap (path_cmp a) is ∙ less) (ap (path_cmp a) is ∙ less))

differ_back : (a b : List ℕ) → path_cmp a b ≡ Less → pointwise nat_eq b a ≡ false
differ_back a b less =
    false_from_ne_true (pointwise nat_eq b a) (λ same. false≢true (sym (differ a b less) ∙ (bytes_decides a b).1 (sym ((bytes_decides b a).0 same))))

pub other_paths : (piece : ℕ) (es : List Entry) → Ascend es →
    AllByRecursion (λ e. AllByRecursion (λ l. pointwise nat_eq e.path l.path ≡ false) (large_of piece es)) (small_of piece es)
other_paths piece [] s = tt
other_paths piece (x ∷ rest) s =
    elim (is_large piece x rest) as (λ b. AllByRecursion (λ (e : Entry). AllByRecursion (λ (l : Entry). pointwise nat_eq e.path l.path ≡ false)
    (cond b (x ∷ large_of piece rest) (large_of piece rest))) (cond b (small_of piece rest) (x ∷ small_of piece rest))) [
      | true ↦ Rattle.tree_copy.proofs.Copies.together (λ (e : Entry). path_cmp x.path e.path ≡ Less)
          (λ (e : Entry). AllByRecursion (λ (l : Entry). pointwise nat_eq e.path l.path ≡ false) (large_of piece rest))
          (λ (e : Entry). AllByRecursion (λ (l : Entry). pointwise nat_eq e.path l.path ≡ false) (x ∷ large_of piece rest)) (small_of piece rest)
          (λ e less all. (differ_back x.path e.path less, all)) (small_all (λ e. path_cmp x.path e.path ≡ Less) piece rest s.0) (other_paths piece rest s.1)
      | false ↦ (
        weaker (λ (l : Entry). path_cmp x.path l.path ≡ Less) (λ (l : Entry). pointwise nat_eq x.path l.path ≡ false) (large_of piece rest)
            (λ l less. differ x.path l.path less) (large_all (λ l. path_cmp x.path l.path ≡ Less) piece rest s.0),
        other_paths piece rest s.1,
      )
    ]

module _ (pairs : List Pair) (f : Fine pairs) where
  -- a small entry's target is no large file's
  pub aside : (e : Entry) → Known pairs e → (ls : List Entry) → AllByRecursion (Known pairs) ls →
      AllByRecursion (λ l. pointwise nat_eq e.path l.path ≡ false) ls →
      is_target_of pairs ls (target_of pairs e.path) ≡ false
  aside e k [] ks off = refl
  aside e k (l ∷ ls) ks off =
      let here = false_from_ne_true (pointwise nat_eq (target_of pairs e.path) (target_of pairs l.path)) (λ same.
      let is = one_path pairs f e.path l.path k.0 ks.0.0 k.1 ks.0.1 ((bytes_decides (target_of pairs e.path) (target_of pairs l.path)).0 same) in
      false≢true (sym off.0 ∙ (bytes_decides e.path l.path).1 is))
      in
      (λ i. here i || aside e k ls ks.1 off.1 i)

  pub all_aside : (piece : ℕ) (es : List Entry) → Ascend es → AllByRecursion (Known pairs) es →
      AllByRecursion (λ e. is_target_of pairs (large_of piece es) (target_of pairs e.path) ≡ false) (small_of piece es)
  all_aside piece es s k =
      let ls = large_all (Known pairs) piece es k in
      Rattle.tree_copy.proofs.Copies.together (Known pairs)
      (λ (e : Entry). AllByRecursion (λ (l : Entry). pointwise nat_eq e.path l.path ≡ false) (large_of piece es))
      (λ (e : Entry). is_target_of pairs (large_of piece es) (target_of pairs e.path) ≡ false) (small_of piece es)
      (λ e h o. aside e h (large_of piece es) ls o) (small_all (Known pairs) piece es k) (other_paths piece es s)

  in_top : (x : List ℕ) (g : Goes pairs x) → refusal x ≡ None → is_within (target_of pairs x) g.pair.target ≡ true
  in_top x g v = subst (λ t. is_within t g.pair.target ≡ true) (sym g.is) (below_undoes_graft.within g.pair.target (below_of x g.pair.source)
      (below_made x g.pair.source (below_of x g.pair.source) refl v g.within))

  -- a source is no target
  no_source : (e l : Entry) → Known pairs e → Known pairs l → pointwise nat_eq e.path (target_of pairs l.path) ≡ false
  no_source e l k m = false_from_ne_true (pointwise nat_eq e.path (target_of pairs l.path)) (λ same.
      let g = k.0 in
      let h = m.0 in
      let is = (bytes_decides e.path (target_of pairs l.path)).0 same in
      let over : is_within e.path h.pair.target ≡ true =
      subst (λ t. is_within t h.pair.target ≡ true) (sym is) (in_top l.path h m.1) in
      let meet = one_over g.pair.source h.pair.target e.path (all_at IsPair pairs f.valid g.place g.pair g.at).source
      (all_at IsPair pairs f.valid h.place h.pair h.at).target g.within over in
      false≢true (sym (across (map (λ (p : Pair). p.source) pairs) (map (λ (p : Pair). p.target) pairs) g.place h.place g.pair.source h.pair.target f.apart
      (map_get (λ (p : Pair). p.source) pairs g.place g.pair g.at) (map_get (λ (p : Pair). p.target) pairs h.place h.pair h.at)) ∙ meet))

  pub are_apart : (es : List Entry) → Ascend es → AllByRecursion (Known pairs) es → AllByRecursion (Free pairs es) es → AreApart pairs es
  are_apart es s k free = record {
    sources = λ i j e l a b. no_source e l (at_of (Known pairs) es k i e a) (at_of (Known pairs) es k j l b);
    parents = λ i j e l a b. any_at (λ (l : Entry). pointwise nat_eq (parent_of (target_of pairs e.path)) (target_of pairs l.path)) es j l
        (at_of (Free pairs es) es free i e a) b;
    distinct = λ i j e l a b same.
        let x = at_of (Known pairs) es k i e a in
        let y = at_of (Known pairs) es k j l b in
        once es s i j e l a b
        (one_path pairs f e.path l.path x.0 y.0 x.1 y.1 ((bytes_decides (target_of pairs e.path) (target_of pairs l.path)).0 same));
    low = λ i e a. let x = at_of (Known pairs) es k i e a in no_root pairs f e.path x.0 x.1;
  }
