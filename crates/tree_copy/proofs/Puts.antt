-- A node that is put at a path or taken away, and what a call leaves that does so.
use Rattle.tree_copy.proofs.Prelude.{◌≡◌, ℕ, Bool, true, false, cond, ◌||◌, List, Option, Some, None, IfSome, refl, ap, ◌∙◌, sym, subst, is_some, Err}
use Rattle.tree_copy.proofs.Prelude.{false≢true, get, insert, remove, get-insert, get-remove, parent_of, path_cmp_total, path_cmp_ties, Files, Node, is_dir}
use Rattle.tree_copy.proofs.Prelude.{Answers, Area, SameBut, is_top, make_refusal, WriteError, is_taken, at_itself}
use Rattle.outside.specs.declared.plots.WriteError.TheVariants as write

pub put_here : (p : List ℕ) (n : Node) (files : Files) → get (insert files p n) p ≡ Some n
put_here p n files = get-insert path_cmp_total files p n p ∙ ap (λ b. cond b (Some n) (get files p)) (sym (path_cmp_ties p p) ∙ at_itself p)

pub put_others : (p : List ℕ) (n : Node) (files : Files) → SameBut p files (insert files p n)
put_others p n files q off = get-insert path_cmp_total files p n q ∙ ap (λ b. cond b (Some n) (get files q)) (sym (path_cmp_ties q p) ∙ off)

pub gone_here : (p : List ℕ) (files : Files) → get (remove files p) p ≡ None
gone_here p files = get-remove path_cmp_total files p p ∙ ap (λ b. cond b None (get files p)) (sym (path_cmp_ties p p) ∙ at_itself p)

pub gone_others : (p : List ℕ) (files : Files) → SameBut p files (remove files p)
gone_others p files q off = get-remove path_cmp_total files p q ∙ ap (λ b. cond b None (get files q)) (sym (path_cmp_ties q p) ∙ off)

-- two calls in turn
pub mapped : (R W : Files → Files → Type 0) (t0 t1 : Option Files) → ((a b : Files) → R a b → W a b) →
    IfSome t0 (λ a. IfSome t1 (R a)) → IfSome t0 (λ a. IfSome t1 (W a))
mapped R W None t1 f r = tt
mapped R W (Some a) None f r = tt
mapped R W (Some a) (Some b) f r = f a b r

-- a call that was not refused
pub answered : (r : Files → Option WriteError) (w : Files → Files) (R : Files → Files → Type 0) (t t' : Option Files) →
    ((files : Files) → r files ≡ None → R files (w files)) → IfSome t (λ files. (r files ≡ None) × (t' ≡ Some (w files))) →
    IfSome t (λ files. IfSome t' (R files))
answered r w R None t' f h = tt
answered r w R (Some files) t' f h = subst (λ o. IfSome o (R files)) (sym h.1) (f files h.0)

-- a call that makes a node and was refused since one was there
pub was_taken : (r : Files → Option WriteError) (w : Files → Files) (p : List ℕ) (x : WriteError) (R : Files → Files → Type 0) (t t' : Option Files) →
    is_taken x ≡ true → ((files : Files) → r files ≡ Some write.Exists → R files files) → IfSome t (λ files. Answers p (r files) files (w files) (Err x) t') →
    IfSome t (λ files. IfSome t' (R files))
was_taken r w p x R None t' e f h = tt
was_taken r w p write.Exists R (Some files) t' e f h = subst (λ o. IfSome o (R files)) (sym h.1) (f files h.0)
was_taken r w p write.Failed R (Some files) t' e f h = absurd (false≢true e)
was_taken r w p write.NoParent R (Some files) t' e f h = absurd (false≢true e)
was_taken r w p write.WrongKind R (Some files) t' e f h = absurd (false≢true e)
was_taken r w p write.NotEmpty R (Some files) t' e f h = absurd (false≢true e)
was_taken r w p write.Absent R (Some files) t' e f h = absurd (false≢true e)
was_taken r w p write.OutOfMemory R (Some files) t' e f h = absurd (false≢true e)

-- what a refusal to make a node, or none, tells of the path

pub free : (o : Option Node) (r : Option WriteError) → cond (is_some o) (Some write.Exists) r ≡ None → o ≡ None
free None r e = refl
free (Some n) r e = cc

pub taken : (area : Area) (p : List ℕ) (files : Files) → is_top area p ≡ true → make_refusal area files p ≡ Some write.Exists → is_some (get files p) ≡ true
taken area p files top e = by (get files p) (is_top area p) (is_dir (get files (parent_of p))) top e
  where
    by : (o : Option Node) (t d : Bool) → t ≡ true → cond (is_some o) (Some write.Exists) (cond (t || d) None (Some write.NoParent)) ≡ Some write.Exists →
        is_some o ≡ true
    by (Some n) t d top e = refl
    by None true d top e = cc
    by None false d top e = cc
