-- A tree stays one where a node is added in a directory.
use Rattle.files_mem.proofs.Prelude.{◌≡◌, ℕ, Bool, true, false, cond, ◌&&◌, ◌||◌, List, [], ◌∷◌, Option, Some, None, refl, ap, ◌∙◌, sym, subst, arith, Result}
use Rattle.files_mem.proofs.Prelude.{Ok, Err, OnOk, OnErr, is_none, eq_by_cmp, bytes_decides, get, insert, empty, remove, get-insert, get-remove, get-empty}
use Rattle.files_mem.proofs.Prelude.{false≢true, and_from, or_right, path_cmp, refusal, parent_of, path_cmp_total, path_cmp_ties, Files, Node, Body, dir, file}
use Rattle.files_mem.proofs.Prelude.{link, other, is_dir, is_dir_body, is_file, is_file_body, is_root, names_in, written, write_refusal, remove_file_refusal}
use Rattle.files_mem.proofs.Prelude.{remove_dir_refusal, is_open, in_area, Area, no_child, nat_tests, Exists, NoParent, put_refusal, empty_files, both}
use Rattle.std.specs.Prelude.{length, not}
use Rattle.std.specs.Option.{is_some}
use Rattle.std.specs.Bool.{IsTrue}
use Rattle.outside.specs.Tree.{IsTree}
use Rattle.outside.specs.declared.plots.WriteError.TheVariants as write

pub same_path : (q p : List ℕ) → eq_by_cmp path_cmp q p ≡ true → q ≡ p
same_path q p e = (bytes_decides q p).0 (path_cmp_ties q p ∙ e)

-- at another path nothing changes
pub elsewhere : (files : Files) (p q : List ℕ) (n : Node) → eq_by_cmp path_cmp q p ≡ false → get (insert files p n) q ≡ get files q
elsewhere files p q n e = get-insert path_cmp_total files p n q ∙ ap (λ b. cond b (Some n) (get files q)) e

pub keeps_dir : (files : Files) (p x : List ℕ) (n : Node) → is_dir (get files p) ≡ false → is_dir (get files x) ≡ true
    → is_dir (get (insert files p n) x) ≡ true
keeps_dir files p x n off d =
    elim (eq_by_cmp path_cmp x p) as (λ b. eq_by_cmp path_cmp x p ≡ b → is_dir (get (insert files p n) x) ≡ true) [
      | true ↦ λ e. absurd (false≢true (sym off ∙ ap is_dir (ap (get files) (sym (same_path x p e))) ∙ d))
      | false ↦ λ e. ap is_dir (elsewhere files p x n e) ∙ d
    ] refl

-- what holds of a path other than `/`
abbrev IsPlaced : Files → List ℕ → Type 0
IsPlaced files q = (is_none (get files q) || (is_none (refusal q) && is_dir (get files (parent_of q)))) ≡ true

still : (a b c d : Bool) → (c ≡ true → d ≡ true) → (a || (b && c)) ≡ true → (a || (b && d)) ≡ true
still true b c d k e = refl
still false true c d k e = k e
still false false c d k e = e

placed_new : (files : Files) (p q : List ℕ) (n : Node) → get files p ≡ None → refusal p ≡ None → is_dir (get files (parent_of p)) ≡ true
    → IsPlaced files q → IsPlaced (insert files p n) q
placed_new files p q n none fine above h =
    elim (eq_by_cmp path_cmp q p) as (λ b. eq_by_cmp path_cmp q p ≡ b → IsPlaced (insert files p n) q) [
      | true ↦ λ e. let is = same_path q p e in
          or_right (is_none (get (insert files p n) q)) _
          (and_from (is_none (refusal q)) _ (ap is_none (ap refusal is ∙ fine))
          (keeps_dir files p (parent_of q) n (ap is_dir none) (ap (λ x. is_dir (get files (parent_of x))) is ∙ above)))
      | false ↦ λ e.
          ap (λ o. is_none o || (is_none (refusal q) && is_dir (get (insert files p n) (parent_of q)))) (elsewhere files p q n e)
          ∙ still (is_none (get files q)) (is_none (refusal q)) (is_dir (get files (parent_of q)))
          (is_dir (get (insert files p n) (parent_of q))) (keeps_dir files p (parent_of q) n (ap is_dir none)) h
    ] refl

insert_tree : (files : Files) (p : List ℕ) (n : Node) → IsTree files → get files p ≡ None → refusal p ≡ None
    → is_dir (get files (parent_of p)) ≡ true → IsTree (insert files p n)
unfolding IsTree
insert_tree files p n h none fine above q =
    elim (is_root q) as (λ b. cond b (is_dir (get files q)) (is_none (get files q) || (is_none (refusal q) && is_dir (get files (parent_of q)))) ≡ true →
    cond b (is_dir (get (insert files p n) q))
    (is_none (get (insert files p n) q) || (is_none (refusal q) && is_dir (get (insert files p n) (parent_of q)))) ≡ true) [
      | true ↦ keeps_dir files p q n (ap is_dir none)
      | false ↦ placed_new files p q n none fine above
    ] (h q)

pub refused_not : (o : Option Node) (b : Bool) → cond (is_some o) (Some Exists) (cond b None (Some NoParent)) ≡ None → (o ≡ None) × (b ≡ true)
refused_not None true e = (refl, refl)
refused_not None false e = cc
refused_not (Some n) b e = cc

-- after a node was put where that is not refused, or was not put
pub put_tree : {B : Type 0} (r : Result (Unit {0}) B) (old new : Files) (p : List ℕ) (n : Node) → IsTree old → put_refusal old p ≡ None
    → refusal p ≡ None → OnOk r (new ≡ insert old p n) → OnErr r (new ≡ old) → IsTree new
put_tree (Ok x) old new p n t e fine done kept =
    let h = refused_not (get old p) (is_dir (get old (parent_of p))) e in
    subst IsTree (sym done) (insert_tree old p n t h.0 fine h.1)
put_tree (Err x) old new p n t e fine done kept = subst IsTree (sym kept) t

-- `/` alone is a tree
pub empty_tree : IsTree empty_files
unfolding IsTree
empty_tree q =
    let n : Node = record { body = dir 0; mtime = None } in
    let here : get empty_files q ≡ cond (is_root q) (Some n) (get {R = path_cmp} empty q) = get-insert path_cmp_total empty (47 ∷ []) n q
    ∙ ap (λ b. cond b (Some n) (get {R = path_cmp} empty q)) (sym (path_cmp_ties q (47 ∷ []))) in
    elim (is_root q) as (λ b. get empty_files q ≡ cond b (Some n) (get {R = path_cmp} empty q)
    → cond b (is_dir (get empty_files q))
    (is_none (get empty_files q) || (is_none (refusal q) && is_dir (get empty_files (parent_of q)))) ≡ true) [
      | true ↦ λ e. ap is_dir e
      | false ↦ λ e. ap (λ o. is_none o || (is_none (refusal q) && is_dir (get empty_files (parent_of q)))) (e ∙ get-empty path_cmp q)
    ] here

-- a node that is no directory takes the place of one that is none

placed_again : (files : Files) (p q : List ℕ) (n : Node) → is_none (get files p) ≡ false → is_dir (get files p) ≡ false → IsPlaced files q
    → IsPlaced (insert files p n) q
placed_again files p q n some off h =
    elim (eq_by_cmp path_cmp q p) as (λ b. eq_by_cmp path_cmp q p ≡ b → IsPlaced (insert files p n) q) [
      | true ↦ λ e. or_right (is_none (get (insert files p n) q)) _
          (still false (is_none (refusal q)) (is_dir (get files (parent_of q))) (is_dir (get (insert files p n) (parent_of q)))
          (keeps_dir files p (parent_of q) n off)
          (ap (λ b. b || (is_none (refusal q) && is_dir (get files (parent_of q)))) (sym (ap is_none (ap (get files) (same_path q p e)) ∙ some)) ∙ h))
      | false ↦ λ e.
          ap (λ o. is_none o || (is_none (refusal q) && is_dir (get (insert files p n) (parent_of q)))) (elsewhere files p q n e)
          ∙ still (is_none (get files q)) (is_none (refusal q)) (is_dir (get files (parent_of q)))
          (is_dir (get (insert files p n) (parent_of q))) (keeps_dir files p (parent_of q) n off) h
    ] refl

again_tree : (files : Files) (p : List ℕ) (n : Node) → IsTree files → is_none (get files p) ≡ false → is_dir (get files p) ≡ false → IsTree (insert files p n)
unfolding IsTree
again_tree files p n h some off q =
    elim (is_root q) as (λ b. cond b (is_dir (get files q)) (is_none (get files q) || (is_none (refusal q) && is_dir (get files (parent_of q)))) ≡ true →
    cond b (is_dir (get (insert files p n) q))
    (is_none (get (insert files p n) q) || (is_none (refusal q) && is_dir (get (insert files p n) (parent_of q)))) ≡ true) [
      | true ↦ keeps_dir files p q n off
      | false ↦ placed_again files p q n some off
    ] (h q)

pub file_there : (o : Option Node) → is_file o ≡ true → (is_none o ≡ false) × (is_dir o ≡ false)
file_there None e = absurd (false≢true e)
file_there (Some n) e = (refl, by_body n.body e)
  where
    by_body : (b : Body) → is_file_body b ≡ true → is_dir_body b ≡ false
    by_body (dir far) e = absurd (false≢true e)
    by_body (file bytes) e = refl
    by_body (link text) e = refl
    by_body other e = refl

-- after bytes were written to a file, or were not
pub write_tree : {B : Type 0} (r : Result (Unit {0}) B) (old new : Files) (p : List ℕ) (at : ℕ) (bytes : List ℕ) → IsTree old
    → is_file (get old p) ≡ true → OnOk r (new ≡ written old p at bytes) → OnErr r (new ≡ old) → IsTree new
write_tree (Ok x) old new p at bytes t f done kept = let h = file_there (get old p) f in subst IsTree (sym done) (again_tree old p _ t h.0 h.1)
write_tree (Err x) old new p at bytes t f done kept = subst IsTree (sym kept) t

-- a node is gone, over which no other node stands

pub off_here : (files : Files) (p q : List ℕ) → eq_by_cmp path_cmp q p ≡ false → get (remove files p) q ≡ get files q
off_here files p q e = get-remove path_cmp_total files p q ∙ ap (λ b. cond b None (get files q)) e

-- no node has the path as its parent
abbrev pub IsBare : Files → List ℕ → Type 0
IsBare files p = (q : List ℕ) → refusal q ≡ None → is_root q ≡ false → is_some (get files q) ≡ true → parent_of q ≡ p → ⊥

none_of : {A : Type 0} (o : Option A) → is_none o ≡ true → o ≡ None
none_of None e = refl
none_of (Some x) e = absurd (false≢true e)

some_of : {A : Type 0} (o : Option A) → is_none o ≡ false → is_some o ≡ true
some_of None e = absurd (false≢true (sym e))
some_of (Some x) e = refl

placed_left : (files : Files) (p q : List ℕ) → IsBare files p → is_root q ≡ false → IsPlaced files q → IsPlaced (remove files p) q
placed_left files p q bare off h =
    elim (eq_by_cmp path_cmp q p) as (λ b. eq_by_cmp path_cmp q p ≡ b → IsPlaced (remove files p) q) [
      | true ↦ λ e. ap (λ o. is_none o || (is_none (refusal q) && is_dir (get (remove files p) (parent_of q))))
          (get-remove path_cmp_total files p q ∙ ap (λ b. cond b None (get files q)) e)
      | false ↦ λ e. ap (λ o. is_none o || (is_none (refusal q) && is_dir (get (remove files p) (parent_of q)))) (off_here files p q e)
          ∙ there (is_none (get files q)) refl
    ] refl
  where
    over : is_none (get files q) ≡ false → is_none (refusal q) ≡ true → eq_by_cmp path_cmp (parent_of q) p ≡ false
    over some fine =
        elim (eq_by_cmp path_cmp (parent_of q) p) as (λ b. eq_by_cmp path_cmp (parent_of q) p ≡ b → b ≡ false) [
          | true ↦ λ e. absurd (bare q (none_of (refusal q) fine) off (some_of (get files q) some) (same_path (parent_of q) p e))
          | false ↦ λ e. refl
        ] refl

    there : (b : Bool) → is_none (get files q) ≡ b → (is_none (get files q) || (is_none (refusal q) && is_dir (get (remove files p) (parent_of q)))) ≡ true
    there true e = ap (λ b. b || (is_none (refusal q) && is_dir (get (remove files p) (parent_of q)))) e
    there false e =
        let parts = both (is_none (refusal q)) (is_dir (get files (parent_of q)))
        (ap (λ b. b || (is_none (refusal q) && is_dir (get files (parent_of q)))) (sym e) ∙ h) in
        or_right (is_none (get files q)) _ (and_from (is_none (refusal q)) _ parts.0 (ap is_dir (off_here files p (parent_of q) (over e parts.0)) ∙ parts.1))

root_off : (p q : List ℕ) → is_root p ≡ false → is_root q ≡ true → eq_by_cmp path_cmp q p ≡ false
root_off p q off on =
    elim (eq_by_cmp path_cmp q p) as (λ b. eq_by_cmp path_cmp q p ≡ b → b ≡ false) [
      | true ↦ λ e. absurd (false≢true (sym off ∙ ap is_root (sym (same_path q p e)) ∙ on))
      | false ↦ λ e. refl
    ] refl

remove_tree : (files : Files) (p : List ℕ) → IsTree files → is_root p ≡ false → IsBare files p → IsTree (remove files p)
unfolding IsTree
remove_tree files p h off bare q =
    elim (is_root q) as (λ b. is_root q ≡ b
    → cond b (is_dir (get files q)) (is_none (get files q) || (is_none (refusal q) && is_dir (get files (parent_of q)))) ≡ true →
    cond b (is_dir (get (remove files p) q))
    (is_none (get (remove files p) q) || (is_none (refusal q) && is_dir (get (remove files p) (parent_of q)))) ≡ true) [
      | true ↦ λ is d. ap is_dir (off_here files p q (root_off p q off is)) ∙ d
      | false ↦ λ is. placed_left files p q bare is
    ] refl (h q)

-- no node is under one that is no directory
pub bare_file : (files : Files) (p : List ℕ) → IsTree files → is_dir (get files p) ≡ false → IsBare files p
unfolding IsTree
bare_file files p h off q fine root here over =
    false≢true (sym off ∙ ap (λ x. is_dir (get files x)) (sym over) ∙ dir_over (is_root q) root (get files q) here (h q))
  where
    dir_over : (b : Bool) → b ≡ false → (o : Option Node) → is_some o ≡ true
        → cond b (is_dir o) (is_none o || (is_none (refusal q) && is_dir (get files (parent_of q)))) ≡ true
        → is_dir (get files (parent_of q)) ≡ true
    dir_over true e o s c = absurd (false≢true (sym e))
    dir_over false e None s c = absurd (false≢true s)
    dir_over false e (Some n) s c = (both (is_none (refusal q)) (is_dir (get files (parent_of q))) c).1

pub no_dir : (o : Option Node) → remove_file_refusal o ≡ None → is_dir o ≡ false
no_dir None e = refl
no_dir (Some n) e = elim (is_dir (Some n)) as (λ b. cond b (Some write.WrongKind) None ≡ None → b ≡ false) [ true ↦ λ h. cc | false ↦ λ h. refl ] e

pub can_write : (o : Option Node) → write_refusal o ≡ None → is_file o ≡ true
can_write None e = cc
can_write (Some n) e = elim (is_file (Some n)) as (λ b. cond b None (Some write.WrongKind) ≡ None → b ≡ true) [ true ↦ λ h. refl | false ↦ λ h. cc ] e

pub no_name : (files : Files) (p : List ℕ) → remove_dir_refusal files p ≡ None → length (names_in files p) ≡ 0
no_name files p e = grind (arith, nat_tests)

pub not_root : (a : Area) (p : List ℕ) → IsTrue (is_open a p) → is_root p ≡ false
not_root a p o = by (in_area a p) (is_root p) o
  where
    by : (i r : Bool) → (i && not r) ≡ true → r ≡ false
    by true true e = absurd (false≢true e)
    by true false e = refl
    by false r e = absurd (false≢true e)

-- after a node was removed as that is not refused, or was not

pub take_file : {B : Type 0} (r : Result (Unit {0}) B) (old new : Files) (p : List ℕ) → IsTree old → is_root p ≡ false
    → remove_file_refusal (get old p) ≡ None → OnOk r (new ≡ remove old p) → OnErr r (new ≡ old) → IsTree new
take_file (Ok x) old new p t o e done kept = subst IsTree (sym done) (remove_tree old p t o (bare_file old p t (no_dir (get old p) e)))
take_file (Err x) old new p t o e done kept = subst IsTree (sym kept) t

pub take_dir : {B : Type 0} (r : Result (Unit {0}) B) (old new : Files) (p : List ℕ) → IsTree old → is_root p ≡ false
    → remove_dir_refusal old p ≡ None → OnOk r (new ≡ remove old p) → OnErr r (new ≡ old) → IsTree new
take_dir (Ok x) old new p t o e done kept =
    subst IsTree (sym done) (remove_tree old p t o (λ q fine off here over. no_child old p q (no_name old p e) fine off here over))
take_dir (Err x) old new p t o e done kept = subst IsTree (sym kept) t
