-- What the map in memory has, as what the tree has.
use Rattle.files_mem.proofs.Prelude.{◌≡◌, ℕ, true, false, cond, List, [], ◌∷◌, map, Some, refl, ◌∙◌, option_map, lookup, is_at, eq_by_cmp, get, find}
use Rattle.files_mem.proofs.Prelude.{get-from_entries, path_cmp, path_cmp_total, node_of, files_of}
use Rattle.files_mem.specs.declared.nodes.Node as stored

found : (q : List ℕ) (es : List (List ℕ × stored.Node))
    → find path_cmp q (map (λ e. (e.0, node_of e.1)) es) ≡ option_map node_of (lookup (is_at (path_cmp q)) es)
found q [] = refl
found q (e ∷ es) =
    elim (eq_by_cmp path_cmp q e.0) as
    (λ b. cond b (Some (node_of e.1)) (find path_cmp q (map (λ e. (e.0, node_of e.1)) es))
    ≡ option_map node_of (cond b (Some e.1) (lookup (is_at (path_cmp q)) es))) [ true ↦ refl | false ↦ found q es ]

-- the node at a path
pub get_is : (q : List ℕ) (es : List (List ℕ × stored.Node)) → get (files_of es) q ≡ option_map node_of (lookup (is_at (path_cmp q)) es)
get_is q es = get-from_entries path_cmp_total _ q ∙ found q es
