-- A part stays one, whatever is written in it.
use Rattle.files_mem.proofs.Prelude.{◌≡◌, ℕ, Bool, true, false, cond, not, ◌||◌, List, Option, Some, None, refl, ap, ◌∙◌, sym, subst, is_some, false≢true}
use Rattle.files_mem.proofs.Prelude.{IsTrue, Result, Ok, Err, OnOk, OnErr, get, insert, remove, get-remove, eq_by_cmp, bytes_decides, path_cmp, refusal}
use Rattle.files_mem.proofs.Prelude.{parent_of, path_cmp_total, path_cmp_ties, Files, Node, is_dir, is_root, under, is_open, is_top, written, write_refusal}
use Rattle.files_mem.proofs.Prelude.{remove_file_refusal, remove_dir_refusal, in_tops, IsPart, no_child, Exists, NoParent, put_refusal_at, both}
use Rattle.std.proofs.Common.{is_none}
use Rattle.files_mem.proofs.Treed.{same_path, keeps_dir, elsewhere, off_here, file_there, no_dir, no_name, not_root, can_write}

-- what has to be true of the node at the path that is written
record Here (tops : List (List ℕ)) (new : Files) (p : List ℕ) : Type 0 where
  inside : in_tops tops p ≡ true
  no_root : is_root p ≡ false
  valid : refusal p ≡ None
  parents : (is_top (under tops) p || is_dir (get new (parent_of p))) ≡ true

step : (tops : List (List ℕ)) (old new : Files) (p : List ℕ) → IsPart tops old → ((q : List ℕ) → eq_by_cmp path_cmp q p ≡ false → get new q ≡ get old q) →
    ((q : List ℕ) → is_some (get old q) ≡ true → parent_of q ≡ p → is_dir (get old p) ≡ true → is_dir (get new p) ≡ true)
    → (is_some (get new p) ≡ true → Here tops new p) → IsPart tops new
step tops old new p part other over here = record {
  inside = λ q s. by (λ q. in_tops tops q ≡ true) q s (λ h. h.inside) (λ t. part.inside q t);
  no_root = λ q s. by (λ q. is_root q ≡ false) q s (λ h. h.no_root) (λ t. part.no_root q t);
  valid = λ q s. by (λ q. refusal q ≡ None) q s (λ h. h.valid) (λ t. part.valid q t);
  parents = λ q s. by (λ q. (is_top (under tops) q || is_dir (get new (parent_of q))) ≡ true) q s (λ h. h.parents)
      (λ t. kept q t (is_top (under tops) q) (part.parents q t));
}
  where
    by : (P : List ℕ → Type 0) (q : List ℕ) → is_some (get new q) ≡ true → (Here tops new p → P p) → (is_some (get old q) ≡ true → P q) → P q
    by P q s f g = elim (eq_by_cmp path_cmp q p) as (λ b. eq_by_cmp path_cmp q p ≡ b → P q) [
      | true ↦ λ is. let e = same_path q p is in subst P (sym e) (f (here (ap (λ x. is_some (get new x)) (sym e) ∙ s)))
      | false ↦ λ off. g (ap is_some (sym (other q off)) ∙ s)
    ] refl

    dirs : (q : List ℕ) → is_some (get old q) ≡ true → is_dir (get old (parent_of q)) ≡ true → is_dir (get new (parent_of q)) ≡ true
    dirs q t d = elim (eq_by_cmp path_cmp (parent_of q) p) as (λ b. eq_by_cmp path_cmp (parent_of q) p ≡ b → is_dir (get new (parent_of q)) ≡ true) [
      | true ↦ λ is. let e = same_path (parent_of q) p is in ap (λ x. is_dir (get new x)) e ∙ over q t e (ap (λ x. is_dir (get old x)) (sym e) ∙ d)
      | false ↦ λ off. ap is_dir (other (parent_of q) off) ∙ d
    ] refl

    kept : (q : List ℕ) → is_some (get old q) ≡ true → (b : Bool) → (b || is_dir (get old (parent_of q))) ≡ true → (b || is_dir (get new (parent_of q))) ≡ true
    kept q t true e = refl
    kept q t false e = dirs q t e

refused_not : (o : Option Node) (b : Bool) → cond (is_some o) (Some Exists) (cond b None (Some NoParent)) ≡ None → (o ≡ None) × (b ≡ true)
refused_not None true e = (refl, refl)
refused_not None false e = cc
refused_not (Some n) b e = cc

open_in : (tops : List (List ℕ)) (p : List ℕ) → IsTrue (is_open (under tops) p) → in_tops tops p ≡ true
open_in tops p o = (both (in_tops tops p) (not (is_root p)) o).0

pub put_part : {B : Type 0} (r : Result (Unit {0}) B) (tops : List (List ℕ)) (old new : Files) (p : List ℕ) (n : Node) → IsPart tops old
    → IsTrue (is_open (under tops) p) → put_refusal_at (is_top (under tops) p) old p ≡ None → refusal p ≡ None →
    OnOk r (new ≡ insert old p n) → OnErr r (new ≡ old) → IsPart tops new
put_part (Ok x) tops old new p n part o free fine done kept =
    let f = refused_not (get old p) (is_top (under tops) p || is_dir (get old (parent_of p))) free in
    let off : is_dir (get old p) ≡ false = ap is_dir f.0 in
    subst (IsPart tops) (sym done)
    (step tops old (insert old p n) p part (λ q. elsewhere old p q n) (λ q s e d. absurd (false≢true (sym off ∙ d))) (λ _. record {
      inside = open_in tops p o;
      no_root = not_root (under tops) p o;
      valid = fine;
      parents = or_kept (is_top (under tops) p) (is_dir (get old (parent_of p))) (is_dir (get (insert old p n) (parent_of p)))
          (keeps_dir old p (parent_of p) n off) f.1;
    }))
  where
    or_kept : (b c d : Bool) → (c ≡ true → d ≡ true) → (b || c) ≡ true → (b || d) ≡ true
    or_kept true c d k e = refl
    or_kept false c d k e = k e
put_part (Err x) tops old new p n part o free fine done kept = subst (IsPart tops) (sym kept) part

pub write_part : {B : Type 0} (r : Result (Unit {0}) B) (tops : List (List ℕ)) (old new : Files) (p : List ℕ) (at : ℕ) (bytes : List ℕ)
    → IsPart tops old → OnOk r (write_refusal (get old p) ≡ None) →
    OnOk r (new ≡ written old p at bytes) → OnErr r (new ≡ old) → IsPart tops new
write_part (Ok x) tops old new p at bytes part free done kept =
    let f = file_there (get old p) (can_write (get old p) free) in
    let there = some_of (get old p) f.0 in
    subst (IsPart tops) (sym done)
    (step tops old (written old p at bytes) p part (λ q. elsewhere old p q _) (λ q s e d. absurd (false≢true (sym f.1 ∙ d)))
    (λ _. record {
      inside = part.inside p there;
      no_root = part.no_root p there;
      valid = part.valid p there;
      parents = or_kept (is_top (under tops) p) (is_dir (get old (parent_of p))) (is_dir (get (written old p at bytes) (parent_of p)))
          (keeps_dir old p (parent_of p) _ f.1) (part.parents p there);
    }))
  where
    some_of : (o : Option Node) → is_none o ≡ false → is_some o ≡ true
    some_of None e = absurd (false≢true (sym e))
    some_of (Some n) e = refl

    or_kept : (b c d : Bool) → (c ≡ true → d ≡ true) → (b || c) ≡ true → (b || d) ≡ true
    or_kept true c d k e = refl
    or_kept false c d k e = k e
write_part (Err x) tops old new p at bytes part free done kept = subst (IsPart tops) (sym kept) part

gone : (old : Files) (p : List ℕ) → get (remove old p) p ≡ None
gone old p = get-remove path_cmp_total old p p ∙ ap (λ b. cond b None (get old p)) (sym (path_cmp_ties p p) ∙ (bytes_decides p p).1 refl)

never : (P : Type 0) (old : Files) (p : List ℕ) → is_some (get (remove old p) p) ≡ true → P
never P old p s = absurd (false≢true (sym (ap is_some (gone old p)) ∙ s))

pub remove_file_part : {B : Type 0} (r : Result (Unit {0}) B) (tops : List (List ℕ)) (old new : Files) (p : List ℕ) → IsPart tops old
    → OnOk r (remove_file_refusal (get old p) ≡ None) →
    OnOk r (new ≡ remove old p) → OnErr r (new ≡ old) → IsPart tops new
remove_file_part (Ok x) tops old new p part free done kept =
    subst (IsPart tops) (sym done)
    (step tops old (remove old p) p part (off_here old p) (λ q s e d. absurd (false≢true (sym (no_dir (get old p) free) ∙ d)))
    (never _ old p))
remove_file_part (Err x) tops old new p part free done kept = subst (IsPart tops) (sym kept) part

pub remove_dir_part : {B : Type 0} (r : Result (Unit {0}) B) (tops : List (List ℕ)) (old new : Files) (p : List ℕ) → IsPart tops old
    → OnOk r (remove_dir_refusal old p ≡ None) →
    OnOk r (new ≡ remove old p) → OnErr r (new ≡ old) → IsPart tops new
remove_dir_part (Ok x) tops old new p part free done kept =
    subst (IsPart tops) (sym done)
    (step tops old (remove old p) p part (off_here old p)
    (λ q s e d. absurd (no_child old p q (no_name old p free) (part.valid q s) (part.no_root q s) s e)) (never _ old p))
remove_dir_part (Err x) tops old new p part free done kept = subst (IsPart tops) (sym kept) part
