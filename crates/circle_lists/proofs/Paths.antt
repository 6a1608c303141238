-- The line of a path: it has no line feed, tells the path, and is no end line. And the head's.
use Rattle.circle_lists.proofs.Prelude.{◌≡◌, ℕ, ◌<◌, ◌^◌, List, [], ◌∷◌, ◌++◌, get_or, Option, Some, None, Ok, refl, ap, sym, ◌∙◌, arith, codes, decimal}
use Rattle.circle_lists.proofs.Prelude.{append_cancel_left, decimal_injective, refusal, escape, reading, ReadingUndoesWriting, first_slash, end_text, cut}
use Rattle.circle_lists.proofs.Prelude.{IsFree, cut_again, decimal_free, free-append, IsRank, head_text, IsWritable}

-- ---- paths

pub same_path : ReadingUndoesWriting → (p q : List ℕ) → IsWritable p → IsWritable q → escape p ≡ escape q → p ≡ q
same_path undoes p q is one e =
    let both : Ok p ≡ Ok q = sym (undoes.back p is.valid) ∙ ap reading e ∙ undoes.back q one.valid in
    cc

first_byte : (p : List ℕ) → refusal p ≡ None → get_or (escape p) 0 0 ≡ 47
first_byte [] e = absurd cc
first_byte (b ∷ p) e = ap (λ b. get_or (escape (b ∷ p)) 0 0) (first_slash b p e)

-- an end line is no path's, since it does not begin with a slash
pub end_apart : (p : List ℕ) (n : ℕ) → IsWritable p → escape p ≡ end_text n → ⊥
end_apart p n is e =
    let byte : 47 ≡ 101 = sym (first_byte p is.valid) ∙ ap (λ l. get_or l 0 0) e in
    absurd (omega (arith, byte))

-- ---- the head

pub head_free : (rank ranks : ℕ) → IsRank rank ranks → IsFree 10 (head_text rank ranks)
head_free rank ranks is =
    let within = is.within in
    let most = is.most in
    free-append 10 (codes "circle 1 ") _ (refl, (refl, (refl, (refl, (refl, (refl, (refl, (refl, (refl, tt)))))))))
    (free-append 10 (decimal rank) _ (decimal_free 10 rank (omega arith) (omega (arith, within, most)))
    (refl, decimal_free 10 ranks (omega arith) (omega (arith, most))))

pub same_head : (rank ranks other others : ℕ) → IsRank rank ranks → IsRank other others → head_text rank ranks ≡ head_text other others →
    (rank ≡ other) × (ranks ≡ others)
same_head rank ranks other others is one e =
    let within = is.within in
    let most = is.most in
    let below = one.within in
    let few = one.most in
    let low : rank < 2 ^ 64 = omega (arith, within, most) in
    let less : other < 2 ^ 64 = omega (arith, below, few) in
    let words : decimal rank ++ 32 ∷ decimal ranks ≡ decimal other ++ 32 ∷ decimal others = append_cancel_left (codes "circle 1 ") _ _ e in
    let both : ◌≡◌ {A = Option (List ℕ × List ℕ)} (Some (decimal rank, decimal ranks)) (Some (decimal other, decimal others)) =
    sym (cut_again 32 (decimal rank) (decimal ranks) (decimal_free 32 rank (omega arith) low)) ∙ ap (cut 32) words
    ∙ cut_again 32 (decimal other) (decimal others) (decimal_free 32 other (omega arith) less) in
    let pair : ◌≡◌ {A = List ℕ × List ℕ} (decimal rank, decimal ranks) (decimal other, decimal others) = cc in (
      decimal_injective rank other low less (ap (λ p. p.0) pair),
      decimal_injective ranks others (omega (arith, most)) (omega (arith, few)) (ap (λ p. p.1) pair),
    )
