-- Paths below a top and on it.
use Rattle.path_text.proofs.Prelude.{◌≡◌, ℕ, ◌<◌, List, [], ◌∷◌, ◌++◌, length, drop, refl, ap, ◌∙◌, sym, subst, arith, None, ⊎_elim, IsTrue, ordering_reverse}
use Rattle.path_text.proofs.Prelude.{Less, Equal, refusal, path_cmp, front, is_within, below_of, grafted, BelowUndoesGraft, BelowKeepsOrder, path_cmp_total}
use Rattle.path_text.proofs.Preorder.{self_equal, front-joined}
use Rattle.path_text.proofs.Preordered.{under_after}
use Rattle.path_text.proofs.Words.{behind}
use Rattle.path_text.proofs.Joined.{first_slash}
use Rattle.path_text.proofs.Parts.{within, nothing_left, begins, grafted_names}
use Rattle.path_text.proofs.Under.{is_under_by}
use Rattle.path_text.proofs.Within.{itself, under_within}

pub equal : (x : List ℕ) → path_cmp x x ≡ Equal
equal [] = refl
equal (b ∷ x) = self_equal b (path_cmp x x) ∙ equal x

pub below_top : (top : List ℕ) → below_of top top ≡ 47 ∷ []
below_top top = ap (λ r. 47 ∷ r) (sym (nothing_left top))

root_first : (names : List ℕ) → 0 < length names → path_cmp (47 ∷ []) (47 ∷ names) ≡ Less
root_first [] h = absurd (omega arith)
root_first (b ∷ names) h = self_equal 47 Less

-- the top comes first, on it and below it
top_first : (y top : List ℕ) → y ≡ front top ++ drop (length (front top)) y → 0 < length (drop (length (front top)) y) →
    path_cmp (below_of top top) (below_of y top) ≡ path_cmp top y
top_first y top e h =
    let names = drop (length (front top)) y in
    ap (λ l. path_cmp l (47 ∷ names)) (below_top top) ∙ root_first names h ∙ sym (ap (path_cmp top) e ∙ under_after top names h)

turned : (x y a b : List ℕ) → path_cmp x y ≡ path_cmp a b → path_cmp y x ≡ path_cmp b a
turned x y a b e = path_cmp_total.antisymm y x ∙ ap ordering_reverse e ∙ sym (path_cmp_total.antisymm b a)

both_under : (x y top : List ℕ) → x ≡ front top ++ drop (length (front top)) x → y ≡ front top ++ drop (length (front top)) y →
    path_cmp (below_of x top) (below_of y top) ≡ path_cmp x y
both_under x y top e d =
    let before = drop (length (front top)) x in
    let after = drop (length (front top)) y in
    self_equal 47 (path_cmp before after) ∙ sym ((λ i. path_cmp (e i) (d i)) ∙ behind (front top) before after)

pub below_keeps_order : BelowKeepsOrder
below_keeps_order x y top v w =
    ⊎_elim
    (λ e. ⊎_elim
    (λ d. (λ i. path_cmp (below_of (e i) top) (below_of (d i) top)) ∙ equal (below_of top top) ∙ sym ((λ i. path_cmp (e i) (d i)) ∙ equal top))
    (λ d. ap (λ x. path_cmp (below_of x top) (below_of y top)) e ∙ top_first y top d.0 d.1 ∙ ap (λ x. path_cmp x y) (sym e)) (within y top w))
    (λ e. ⊎_elim
    (λ d. ap (λ y. path_cmp (below_of x top) (below_of y top)) d ∙ turned (below_of top top) (below_of x top) top x (top_first x top e.0 e.1)
    ∙ ap (path_cmp x) (sym d))
    (λ d. both_under x y top e.0 d.0) (within y top w)) (within x top v)

-- what a path that is moved to a top comes to
record IsMoved (top rest : List ℕ) : Type 0 where
  within : IsTrue (is_within (grafted top rest) top)
  back : below_of (grafted top rest) top ≡ rest

moved_names : (top names : List ℕ) → 0 < length names → IsMoved top (47 ∷ names)
moved_names top names h =
    let whole : grafted top (47 ∷ names) ≡ front top ++ names = grafted_names top names h ∙ sym (front-joined top names) in
    record {
      within = under_within (grafted top (47 ∷ names)) top (is_under_by (grafted top (47 ∷ names)) top names whole h);
      back = ap (λ r. 47 ∷ r) (sym (begins (grafted top (47 ∷ names)) (front top) names whole).0);
    }

moved : (top rest : List ℕ) → refusal rest ≡ None → IsMoved top rest
moved top [] h = cc
moved top (b ∷ []) h = record { within = itself top; back = below_top top ∙ ap (λ b. b ∷ []) (sym (first_slash b [] h)) }
moved top (b ∷ c ∷ names) h = subst (λ b. IsMoved top (b ∷ c ∷ names)) (sym (first_slash b (c ∷ names) h)) (moved_names top (c ∷ names) (omega arith))

pub below_undoes_graft : BelowUndoesGraft
below_undoes_graft = record { within = λ top rest h. (moved top rest h).within; back = λ top rest h. (moved top rest h).back }
