-- What the map's calls do to the tree.
use Rattle.files_mem.proofs.Prelude.{◌≡◌, ℕ, Bool, true, false, cond, List, [], ◌∷◌, map, Option, Some, None, refl, ap, ◌∙◌, sym, AllZip, Less, Equal, Greater}
use Rattle.files_mem.proofs.Prelude.{get, insert, remove, get-insert, get-remove, same_map, from_entries, lookup, remove_entry, set_value, is_at, insert_entry}
use Rattle.files_mem.proofs.Prelude.{match_ordering, eq_by_cmp_equiv, option_map, node_of, body_of, files_of, AllValid, Result, Ok, Err, OnOk, OnErr, eq_by_cmp}
use Rattle.files_mem.proofs.Prelude.{bytes_decides, Files, Node, file, content, bytes_of, written, spliced, time_of, path_cmp, refusal, path_cmp_total}
use Rattle.files_mem.proofs.Prelude.{path_cmp_same, path_cmp_ties}
use Rattle.files_mem.specs.declared.nodes.Node as stored
use Rattle.files_mem.proofs.Found.{get_is}
use Rattle.files_mem.proofs.Listed.{told}

pub inserted : (old new : List (List ℕ × stored.Node)) (p : List ℕ) (n : stored.Node) →
    ((q : List ℕ) → lookup (is_at (path_cmp q)) new ≡ cond (is_at (path_cmp p) q) (Some n) (lookup (is_at (path_cmp q)) old))
    → files_of new ≡ insert (files_of old) p (node_of n)
inserted old new p n h =
    same_map path_cmp_total path_cmp_same (files_of new) (insert (files_of old) p (node_of n))
    (λ q. get_is q new ∙ ap (option_map node_of) (h q) ∙ through (is_at (path_cmp p) q) (lookup (is_at (path_cmp q)) old)
    ∙ ap (cond (is_at (path_cmp p) q) (Some (node_of n))) (sym (get_is q old))
    ∙ ap (λ b. cond b (Some (node_of n)) (get (files_of old) q)) ((eq_by_cmp_equiv path_cmp_total).symm p q)
    ∙ sym (get-insert path_cmp_total (files_of old) p (node_of n) q))
  where
    through : (b : Bool) (o : Option stored.Node) → option_map node_of (cond b (Some n) o) ≡ cond b (Some (node_of n)) (option_map node_of o)
    through true o = refl
    through false o = refl

-- what a look-up in the map finds, the tree has
pub node_here : (es : List (List ℕ × stored.Node)) (f : Files) (p : List ℕ) (n : stored.Node) → Some n ≡ lookup (is_at (path_cmp p)) es
    → files_of es ≡ f → get f p ≡ Some (node_of n)
node_here es f p n found view = ap (λ f. get f p) (sym view) ∙ get_is p es ∙ ap (option_map node_of) (sym found)

pub none_here : (es : List (List ℕ × stored.Node)) (f : Files) (p : List ℕ) → None ≡ lookup (is_at (path_cmp p)) es → files_of es ≡ f → get f p ≡ None
none_here es f p found view = ap (λ f. get f p) (sym view) ∙ get_is p es ∙ ap (option_map node_of) (sym found)

-- what a write through `get_mut` does

abbrev Through : List (List ℕ × stored.Node) → List (List ℕ × stored.Node) → List ℕ → stored.Node → Type 0
Through old new p w = (q : List ℕ) → lookup (is_at (path_cmp q)) new ≡ cond (is_at (path_cmp p) q) (Some w) (lookup (is_at (path_cmp q)) old)

insert_same : (f : Files) (p : List ℕ) (n : Node) → get f p ≡ Some n → insert f p n ≡ f
insert_same f p n here =
    same_map path_cmp_total path_cmp_same (insert f p n) f
    (λ q. get-insert path_cmp_total f p n q ∙ elim (eq_by_cmp path_cmp q p) as (λ b. eq_by_cmp path_cmp q p ≡ b → cond b (Some n) (get f q) ≡ get f q) [
      | true ↦ λ e. sym here ∙ ap (get f) (sym ((bytes_decides q p).0 (path_cmp_ties q p ∙ e)))
      | false ↦ λ e. refl
    ] refl)

pub wrote : {B : Type 0} (r : Result (Unit {0}) B) (es ns : List (List ℕ × stored.Node)) (f : Files) (p : List ℕ) (n w : stored.Node)
    (at : ℕ) (bytes : List ℕ) → files_of es ≡ f → get f p ≡ Some (node_of n) → Through es ns p w →
    OnOk r (node_of w ≡ record { body = file (spliced (bytes_of (body_of n.body)) at bytes); mtime = n.mtime }) → OnOk r (files_of ns ≡ written f p at bytes)
wrote (Ok x) es ns f p n w at bytes view here t done =
    inserted es ns p w t ∙ ap (λ f. insert f p (node_of w)) view ∙ ap (insert f p) done
    ∙ ap (λ o. insert f p (record { body = file (spliced (content o) at bytes); mtime = time_of o })) (sym here)
wrote (Err x) es ns f p n w at bytes view here t done = tt

pub wrote_not : {B : Type 0} (r : Result (Unit {0}) B) (es ns : List (List ℕ × stored.Node)) (f : Files) (p : List ℕ) (n w : stored.Node)
    → files_of es ≡ f → get f p ≡ Some (node_of n) → Through es ns p w → OnErr r (node_of w ≡ node_of n) → OnErr r (files_of ns ≡ f)
wrote_not (Ok x) es ns f p n w view here t kept = tt
wrote_not (Err x) es ns f p n w view here t kept = inserted es ns p w t ∙ ap (λ f. insert f p (node_of w)) view ∙ ap (insert f p) kept
    ∙ insert_same f p (node_of n) here

pub removed : (old new : List (List ℕ × stored.Node)) (p : List ℕ) →
    ((q : List ℕ) → lookup (is_at (path_cmp q)) new ≡ cond (is_at (path_cmp p) q) None (lookup (is_at (path_cmp q)) old))
    → files_of new ≡ remove (files_of old) p
removed old new p h =
    same_map path_cmp_total path_cmp_same (files_of new) (remove (files_of old) p)
    (λ q. get_is q new ∙ ap (option_map node_of) (h q) ∙ through (is_at (path_cmp p) q) (lookup (is_at (path_cmp q)) old)
    ∙ ap (cond (is_at (path_cmp p) q) None) (sym (get_is q old))
    ∙ ap (λ b. cond b None (get (files_of old) q)) ((eq_by_cmp_equiv path_cmp_total).symm p q)
    ∙ sym (get-remove path_cmp_total (files_of old) p q))
  where
    through : (b : Bool) (o : Option stored.Node) → option_map node_of (cond b None o) ≡ cond b None (option_map node_of o)
    through true o = refl
    through false o = refl

pub valid_insert : (es : List (List ℕ × stored.Node)) (p : List ℕ) (n : stored.Node) → refusal p ≡ None → AllValid es → AllValid (insert_entry path_cmp es p n)
valid_insert [] p n v a = (v, tt)
valid_insert (e ∷ es) p n v a =
    elim (path_cmp p e.0) as (λ o. AllValid (match_ordering o ((p, n) ∷ e ∷ es) ((e.0, n) ∷ es) (e ∷ insert_entry path_cmp es p n))) [
      | Less ↦ (v, a)
      | Equal ↦ a
      | Greater ↦ (a.0, valid_insert es p n v a.1)
    ]

pub valid_remove : (test : List ℕ → Bool) (es : List (List ℕ × stored.Node)) → AllValid es → AllValid (remove_entry test es)
valid_remove test [] a = tt
valid_remove test (e ∷ es) a =
    elim (test e.0) as (λ b. AllValid (cond b es (e ∷ remove_entry test es))) [ true ↦ a.1 | false ↦ (a.0, valid_remove test es a.1) ]

pub valid_set : (test : List ℕ → Bool) (es : List (List ℕ × stored.Node)) (n : stored.Node) → AllValid es → AllValid (set_value test es n)
valid_set test [] n a = tt
valid_set test (e ∷ es) n a =
    elim (test e.0) as (λ b. AllValid (cond b ((e.0, n) ∷ es) (e ∷ set_value test es n))) [
      | true ↦ a
      | false ↦ (a.0, valid_set test es n a.1)
    ]

abbrev pub IsCopy : List (List ℕ × stored.Node) → List (List ℕ × stored.Node) → Type 0
IsCopy es fs = AllZip (λ p q. (q.0 ≡ p.0) × (node_of q.1 ≡ node_of p.1)) es fs

same_told : (es fs : List (List ℕ × stored.Node)) → IsCopy es fs → map told fs ≡ map told es
same_told [] [] c = refl
same_told [] (f ∷ fs) c = elim c [ ]
same_told (e ∷ es) [] c = elim c [ ]
same_told (e ∷ es) (f ∷ fs) c = λ i. (c.0.0 i, c.0.1 i) ∷ same_told es fs c.1 i

pub same_files : (es fs : List (List ℕ × stored.Node)) → IsCopy es fs → files_of fs ≡ files_of es
same_files es fs c = ap from_entries (same_told es fs c)

pub valid_copy : (es fs : List (List ℕ × stored.Node)) → IsCopy es fs → AllValid es → AllValid fs
valid_copy [] [] c a = tt
valid_copy [] (f ∷ fs) c a = elim c [ ]
valid_copy (e ∷ es) [] c a = elim c [ ]
valid_copy (e ∷ es) (f ∷ fs) c a = (ap refusal c.0.0 ∙ a.0, valid_copy es fs c.1 a.1)
