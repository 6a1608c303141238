-- Two files compared piece by piece.
use Rattle.tree_cmp.proofs.Prelude.{◌≡◌, ℕ, ◌+◌, ◌≤◌, true, List, ◌++◌, take, drop, Option, Some, None, IfSome, ◌∙◌, sym, arith, false≢true, take_all, take-add}
use Rattle.tree_cmp.proofs.Prelude.{get, bytes_decides, Files, Node, content, Outcome, Same, IsFileOf, Told, PieceTold, goes_on, counts, RoseBy}
use Rattle.tree_cmp.specs.declared.reading.Outcome.TheVariants.{Missed}

same_piece : (a b : Option Node) (at n : ℕ) (o : Outcome) → PieceTold a b at n o → goes_on o ≡ true
    → take n (drop at (content a)) ≡ take n (drop at (content b))
same_piece a b at n (Same same) p e = (bytes_decides (take n (drop at (content a))) (take n (drop at (content b)))).0 (sym p.2 ∙ e)
same_piece a b at n (Missed dest why) p e = absurd (false≢true e)

-- a piece more is the same
pub alike_more : (told : Option Files) (left right : List ℕ) (at n : ℕ) (o : Outcome)
    → IfSome told (λ files. take at (content (get files left)) ≡ take at (content (get files right)))
    → IfSome told (λ files. PieceTold (get files left) (get files right) at n o) → goes_on o ≡ true →
    IfSome told (λ files. take (at + n) (content (get files left)) ≡ take (at + n) (content (get files right)))
alike_more None left right at n o h p e = tt
alike_more (Some files) left right at n o h p e =
    take-add at n (content (get files left)) ∙ (λ i. h i ++ same_piece (get files left) (get files right) at n o p e i)
    ∙ sym (take-add at n (content (get files right)))

pub all_alike : (told : Option Files) (left right : List ℕ) (size at : ℕ) → size ≤ at
    → IfSome told (λ files. take at (content (get files left)) ≡ take at (content (get files right))) →
    IfSome told (λ files. IsFileOf (get files left) size → IsFileOf (get files right) size → Told (get files left) (get files right) (Same true))
all_alike None left right size at h e = tt
all_alike (Some files) left right size at h e = λ f g.
    let k = f.size in
    let l = g.size in
    sym ((bytes_decides (content (get files left)) (content (get files right))).1
    (sym (take_all at (content (get files left)) (omega arith)) ∙ e ∙ take_all at (content (get files right)) (omega arith)))

-- a count goes on
pub more_count : (old mid new : ℕ) (o : Outcome) → RoseBy 0 old mid → RoseBy (counts o) mid new → RoseBy 0 old new
more_count old mid new o f g = let a = f.kept in let b = g.kept in let d = f.rose in record { kept = omega arith; rose = omega arith }
