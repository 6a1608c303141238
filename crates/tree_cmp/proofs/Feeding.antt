-- An entry more of a list.
use Rattle.tree_cmp.proofs.Prelude.{◌≡◌, ℕ, ◌+◌, ◌-◌, ◌<◌, zero, suc, Bool, true, false, not, if◌then◌else◌, All, List, [], ◌∷◌, map, filter, drop, ap, ◌∙◌}
use Rattle.tree_cmp.proofs.Prelude.{sym, subst, cond, arith, Some, slice_get, option_map, below_of, Entry, Item, Feed, is_gone, items_of, item_of, IsCurrent}
use Rattle.tree_cmp.proofs.Prelude.{step_more}

drop_at : (es : List Entry) (n : ℕ) (e : Entry) → slice_get es n ≡ Some e → drop n es ≡ e ∷ drop (suc n) es
drop_at [] n e h = cc
drop_at (d ∷ es) zero e h = let g : d ≡ e = cc in ap (λ (x : Entry). x ∷ es) g
drop_at (d ∷ es) (suc n) e h = drop_at es n e h

pub next_entry : (top : List ℕ) (es : List Entry) (n m : ℕ) (e : Entry) → m ≡ n + 1 → slice_get es (m - 1) ≡ Some e
    → items_of top (drop n es) ≡ items_of top (e ∷ drop m es)
next_entry top es n m e k h =
    let g : m - 1 ≡ n = omega arith in
    let s : suc n ≡ m = omega arith in
    ap (items_of top) (drop_at es n e (subst (λ j. slice_get es j ≡ Some e) g h) ∙ ap (λ j. e ∷ drop j es) s)

pub gone : (top : List ℕ) (es : List Entry) (n m : ℕ) (e : Entry) → m ≡ n + 1 → slice_get es (m - 1) ≡ Some e → is_gone e.mark ≡ true
    → items_of top (drop m es) ≡ items_of top (drop n es)
gone top es n m e k h g =
    sym (next_entry top es n m e k h
    ∙ (λ i. map (item_of top)
    (cond (not (g i)) (e ∷ filter (λ e. not (is_gone e.mark)) (drop m es)) (filter (λ e. not (is_gone e.mark)) (drop m es)))))

pub there : (top : List ℕ) (es : List Entry) (n m : ℕ) (e : Entry) (x : Item) → m ≡ n + 1 → slice_get es (m - 1) ≡ Some e
    → is_gone e.mark ≡ false → x ≡ item_of top e → items_of top (drop n es) ≡ x ∷ items_of top (drop m es)
there top es n m e x k h g y =
    next_entry top es n m e k h
    ∙ (λ i. map (item_of top) (cond (not (g i)) (e ∷ filter (λ e. not (is_gone e.mark)) (drop m es)) (filter (λ e. not (is_gone e.mark)) (drop m es))))
    ∙ ap (λ (z : Item). z ∷ items_of top (drop m es)) (sym y)

pub passed_0 : (old new : List Entry × ℕ) (t : Bool) → new ≡ (old.0, if t then old.1 + 1 else old.1) → new.0 ≡ old.0
passed_0 old new t h = ap (λ (p : List Entry × ℕ). p.0) h

pub gave : (top : List ℕ) (old new : List Entry × ℕ) (t : Bool) (e : Entry) (x : Item) → new ≡ (old.0, if t then old.1 + 1 else old.1)
    → t ≡ true → slice_get new.0 (new.1 - 1) ≡ Some e → is_gone e.mark ≡ false → x ≡ item_of top e →
    items_of top (drop old.1 old.0) ≡ x ∷ items_of top (drop new.1 new.0)
gave top old new t e x h g s m y = (λ i. items_of top (drop old.1 (sym (passed_0 old new t h) i)))
    ∙ there top new.0 old.1 new.1 e x (step_more old new t h g) s m y

pub passed_gone : (top : List ℕ) (old new : List Entry × ℕ) (t : Bool) (e : Entry) → new ≡ (old.0, if t then old.1 + 1 else old.1)
    → t ≡ true → slice_get new.0 (new.1 - 1) ≡ Some e → is_gone e.mark ≡ true →
    items_of top (drop new.1 new.0) ≡ items_of top (drop old.1 old.0)
passed_gone top old new t e h g s m = gone top new.0 old.1 new.1 e (step_more old new t h g) s m ∙ (λ i. items_of top (drop old.1 (passed_0 old new t h i)))

pub within_still : (P : Entry → Type 0) (old new : List Entry × ℕ) (t : Bool) → new ≡ (old.0, if t then old.1 + 1 else old.1) → All P old.0 → All P new.0
within_still P old new t h g = subst (All P) (sym (passed_0 old new t h)) g

-- an item that was given is that of the entry passed last
pub is_current : (f : Feed) (e : Entry) (x : Item) → slice_get f.cursor.0 (f.cursor.1 - 1) ≡ Some e → is_gone e.mark ≡ false
    → x ≡ item_of f.top.now e → IsCurrent f x
is_current f e x at here is = record {
  there = ap (option_map (λ e. is_gone e.mark)) at ∙ ap Some here;
  path = ap (option_map (λ e. below_of e.path f.top.now)) at ∙ ap (λ (y : Item). Some y.path) (sym is);
}

pub begun : (old new : List Entry × ℕ) (t : Bool) → new ≡ (old.0, if t then old.1 + 1 else old.1) → t ≡ true → 0 < new.1
begun old new t h g = omega (arith, step_more old new t h g)
