-- Groups in the order of their first paths, as they are seen.
use Rattle.tree_dup.proofs.Prelude.{◌≡◌, ◌+◌, List, [], ◌∷◌, length, map, IsSortedBy, IsSortedByKey, is_lt, arith, ◌∙◌, get_or-map, length-map, path_cmp}
use Rattle.tree_dup.proofs.Prelude.{first_path, told_of, Group}

pub sorted_shown : (groups : List Group) → IsSortedBy (λ x y. is_lt (path_cmp (first_path (told_of x)) (first_path (told_of y)))) groups →
    IsSortedByKey first_path path_cmp (map told_of groups)
sorted_shown [] up k d l m = absurd (omega arith)
sorted_shown (g ∷ groups) up k d l m =
    let n : length (map told_of (g ∷ groups)) ≡ length (g ∷ groups) = length-map (g ∷ groups) told_of in
    (λ i. is_lt (path_cmp (first_path (get_or-map told_of (g ∷ groups) (k + 1) g d (omega arith) i)) (first_path (get_or-map told_of (g ∷ groups) k g d
    (omega arith) i))))
    ∙ up k g l (omega arith)
