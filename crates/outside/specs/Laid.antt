-- The files of a part laid over those that its ground kept: the one map in which the two join. Our own.
use Rattle.std.proofs.Common.{◌≡◌, ℕ, Bool, true, false, cond, not, List, [], ◌∷◌, Option, Some, None, refl, ap, ◌∙◌, sym, is_some}
use Rattle.std.specs.FinMap.{get, insert, entries, get-insert, get-entries, get-retain_keys}
use Rattle.std.specs.FinMap.Entries.{find}
use Rattle.std.specs.Ordering.{eq_by_cmp}
use Rattle.path_text.specs.Order.{path_cmp}
use Rattle.path_text.specs.Total.{path_cmp_total, path_cmp_same}
use Rattle.outside.specs.Tree.{Files, Node}
use Rattle.outside.specs.Lease.{in_tops, leased, kept, Joins}

abbrev pub put_all : List (List ℕ × Node) → Files → Files
put_all [] files = files
put_all (e ∷ es) files = insert (put_all es files) e.0 e.1

-- at and under the tops the one map, and everywhere else the other
pub laid : List (List ℕ) → Files → Files → Files
laid tops own rest = put_all (entries (leased tops own)) (kept tops rest)

pub get_put_all : (es : List (List ℕ × Node)) (files : Files) (q : List ℕ)
    → get (put_all es files) q ≡ cond (is_some (find path_cmp q es)) (find path_cmp q es) (get files q)
get_put_all [] files q = refl
get_put_all (e ∷ es) files q = get-insert path_cmp_total (put_all es files) e.0 e.1 q ∙ by (eq_by_cmp path_cmp q e.0) (get_put_all es files q)
  where
    by : (b : Bool) → get (put_all es files) q ≡ cond (is_some (find path_cmp q es)) (find path_cmp q es) (get files q)
        → cond b (Some e.1) (get (put_all es files) q)
        ≡ cond (is_some (cond b (Some e.1) (find path_cmp q es))) (cond b (Some e.1) (find path_cmp q es)) (get files q)
    by true h = refl
    by false h = h

pub get_laid : (tops : List (List ℕ)) (own rest : Files) → Joins tops own rest (laid tops own rest)
unfolding laid
get_laid tops own rest q =
    get_put_all (entries (leased tops own)) (kept tops rest) q
    ∙ ap (λ o. cond (is_some o) o (get (kept tops rest) q))
    (sym (get-entries (leased tops own) q)
    ∙ get-retain_keys own (in_tops tops) q (λ x e. ap (in_tops tops) (sym (path_cmp_same q x e))))
    ∙ ap (λ o. cond (is_some (cond (in_tops tops q) (get own q) None)) (cond (in_tops tops q) (get own q) None) o)
    (get-retain_keys rest (λ x. not (in_tops tops x)) q (λ x e. ap (λ y. not (in_tops tops y)) (sym (path_cmp_same q x e))))
    ∙ by (in_tops tops q) (get own q) (get rest q)
  where
    by : (b : Bool) (o r : Option Node) → cond (is_some (cond b o None)) (cond b o None) (cond (not b) r None) ≡ cond b o r
    by true None r = refl
    by true (Some n) r = refl
    by false o r = refl
