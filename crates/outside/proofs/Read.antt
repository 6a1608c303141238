-- A file is read piece by piece.
use Rattle.outside.proofs.Prelude.{◌≡◌, ℕ, ◌+◌, List, ◌++◌, take, drop, Option, Some, None, IfSome, ◌∙◌, sym, subst, take-add, get, Files, content}

-- the front of a list and the piece behind it
joined : (xs ys : List ℕ) (at n : ℕ) → take at xs ≡ take at ys → take n (drop at xs) ≡ take n (drop at ys) →
    take (at + n) xs ≡ take (at + n) ys
joined xs ys at n front piece = take-add at n xs ∙ (λ i. front i ++ piece i) ∙ sym (take-add at n ys)

-- one more piece is read, by a reader that tells what it told at first
pub read_more : (told now : Option Files) (path old new : List ℕ) (at n : ℕ) → now ≡ told → take at new ≡ take at old →
    IfSome told (λ files. take at old ≡ take at (content (get files path))) →
    IfSome now (λ files. take n (drop at new) ≡ take n (drop at (content (get files path)))) →
    IfSome told (λ files. take (at + n) new ≡ take (at + n) (content (get files path)))
read_more None now path old new at n same kept before piece = tt
read_more (Some files) now path old new at n same kept before piece =
    let told = subst (λ t. IfSome t (λ f. take n (drop at new) ≡ take n (drop at (content (get f path))))) same piece in
    joined new (content (get files path)) at n (kept ∙ before) told
