-- The one path of which no destination stands: every path is within `/`.
use Rattle.tree_sync.proofs.Prelude.{◌≡◌, ℕ, Bool, true, false, cond, List, [], ◌∷◌, length, Option, Some, None, refl, ◌∙◌, sym, subst, arith, ◌==◌, false≢true}
use Rattle.tree_sync.proofs.Prelude.{nat_tests, is_within, refusal, parent_of, root_is, within_root, overlap}
use Rattle.tree_sync.proofs.Apart.{are_apart}

one_byte : (n : ℕ) → (n == 1) ≡ true → n ≡ 1
one_byte n e = grind (arith, nat_tests)

-- where there is no parent the two overlap
pub no_parent : (source dest : List ℕ) (found : Option (List ℕ)) → refusal source ≡ None → refusal dest ≡ None →
    overlap (source ∷ dest ∷ []) ≡ false → found ≡ cond (length dest == 1) None (Some (parent_of dest)) → found ≡ None → ⊥
no_parent source dest found v w apart e none = by (length dest == 1) refl (sym none ∙ e)
  where
    by : (b : Bool) → (length dest == 1) ≡ b → None ≡ cond b None (Some (parent_of dest)) → ⊥
    by true l n = false≢true (sym (are_apart source dest apart).first
        ∙ subst (λ d. is_within source d ≡ true) (sym (root_is dest w (one_byte (length dest) l))) (within_root source v))
    by false l n = absurd (cc)
