-- A file is saved step by step.
use Rattle.outside.proofs.Prelude.{◌≡◌, ℕ, ◌+◌, ◌≤◌, Bool, true, false, cond, ◌&&◌, List, [], ◌∷◌, ◌++◌, length, take, drop, Option, Some, None, IfSome, refl}
use Rattle.outside.proofs.Prelude.{ap, ◌∙◌, sym, subst, arith, append-nil, nat_eq, ◌≢◌, not, ◌==◌, false≢true, take_all, drop_all, length-take, nat_tests}
use Rattle.outside.proofs.Prelude.{take-add, Result, Ok, Err, OnOk, OnErr, is_some, eq_by_cmp, pointwise, bytes_decides, get, insert, get-insert, get-remove}
use Rattle.outside.proofs.Prelude.{same_map, path_cmp, parent_of, refusal, not_root, root_is, path_cmp_total, path_cmp_ties, path_cmp_same, Files, Node, file}
use Rattle.outside.proofs.Prelude.{is_file, content, SameBut, Answers, written, new_file, spliced, time_of, Holds, Saves, can_put, can_save, WriteError}
use Rattle.outside.proofs.Prelude.{SaveError}
use Rattle.std.specs.FinMap.{remove}
use Rattle.outside.specs.declared.plots.WriteError.TheVariants as write
use Rattle.outside.specs.declared.saving.SaveError.TheVariants as e

pub tie : (q p : List ℕ) → eq_by_cmp path_cmp q p ≡ pointwise nat_eq q p
tie q p = sym (path_cmp_ties q p)

pub at_itself : (p : List ℕ) → pointwise nat_eq p p ≡ true
at_itself p = (bytes_decides p p).1 refl

-- one node put
pub put_one : (files : Files) (p : List ℕ) (n : Node) → Holds p (Some n) files (insert files p n)
put_one files p n = record {
  others = λ q off. get-insert path_cmp_total files p n q ∙ ap (λ b. cond b (Some n) (get files q)) (tie q p ∙ off);
  here = get-insert path_cmp_total files p n p ∙ ap (λ b. cond b (Some n) (get files p)) (tie p p ∙ at_itself p);
}

pub removed_one : (files : Files) (p : List ℕ) → Holds p None files (remove files p)
removed_one files p = record {
  others = λ q off. get-remove path_cmp_total files p q ∙ ap (λ b. cond b None (get files q)) (tie q p ∙ off);
  here = get-remove path_cmp_total files p p ∙ ap (λ b. cond b None (get files p)) (tie p p ∙ at_itself p);
}

pub is_put : (p : List ℕ) (n : Node) (before after : Files) → Holds p (Some n) before after → after ≡ insert before p n
is_put p n before after h =
    same_map path_cmp_total path_cmp_same after (insert before p n)
    (λ q. elim (pointwise nat_eq q p) as (λ b. pointwise nat_eq q p ≡ b → get after q ≡ get (insert before p n) q) [
      | true ↦ λ is. let same = (bytes_decides q p).0 is in
          ap (get after) same ∙ h.here ∙ sym (put_one before p n).here ∙ ap (get (insert before p n)) (sym same)
      | false ↦ λ off. h.others q off ∙ sym ((put_one before p n).others q off)
    ] refl)

-- a refusal leaves every path but the one
pub refused : (p : List ℕ) (refusal : Option WriteError) (before after : Files) (x : WriteError) (new : Option Files)
    → Answers p refusal before after (Err x) new → IfSome new (SameBut p before)
refused p r before after write.Failed new h = h
refused p r before after write.OutOfMemory new h = subst (λ o. IfSome o (SameBut p before)) (sym h) (λ q off. refl)
refused p r before after write.Exists new h = subst (λ o. IfSome o (SameBut p before)) (sym h.1) (λ q off. refl)
refused p r before after write.NoParent new h = subst (λ o. IfSome o (SameBut p before)) (sym h.1) (λ q off. refl)
refused p r before after write.WrongKind new h = subst (λ o. IfSome o (SameBut p before)) (sym h.1) (λ q off. refl)
refused p r before after write.NotEmpty new h = subst (λ o. IfSome o (SameBut p before)) (sym h.1) (λ q off. refl)
refused p r before after write.Absent new h = subst (λ o. IfSome o (SameBut p before)) (sym h.1) (λ q off. refl)

-- the same where the tree may not be told

pub made : (R : Files → Type 0) (was now : Option Files) (p : List ℕ) (n : Node)
    → IfSome was (λ files. R files × (now ≡ Some (insert files p n))) → IfSome was (λ files. IfSome now (Holds p (Some n) files))
made R None now p n h = tt
made R (Some files) now p n h = subst (λ o. IfSome o (Holds p (Some n) files)) (sym h.1) (put_one files p n)

pub cleared : (R : Files → Type 0) (was now : Option Files) (p : List ℕ) → IfSome was (λ files. R files × (now ≡ Some (remove files p)))
    → IfSome was (λ files. IfSome now (Holds p None files))
cleared R None now p h = tt
cleared R (Some files) now p h = subst (λ o. IfSome o (Holds p None files)) (sym h.1) (removed_one files p)

spliced_end : (bytes : List ℕ) (at n : ℕ) → at + n ≤ length bytes → spliced (take at bytes) at (take n (drop at bytes)) ≡ take (at + n) bytes
spliced_end bytes at n l =
    let short : length (take at bytes) ≤ at = omega (arith, length-take at bytes) in
    let past : length (take at bytes) ≤ at + length (take n (drop at bytes)) = omega (arith, length-take at bytes) in
    ap (λ r. r ++ take n (drop at bytes) ++ drop (at + length (take n (drop at bytes))) (take at bytes)) (take_all at (take at bytes) short)
    ∙ ap (λ r. take at bytes ++ take n (drop at bytes) ++ r) (drop_all _ (take at bytes) past)
    ∙ append-nil (take at bytes ++ take n (drop at bytes)) ∙ sym (take-add at n bytes)

-- one more piece is written
wrote_here : (before mid : Files) (p bytes piece : List ℕ) (at n : ℕ) → at + n ≤ length bytes → piece ≡ take n (drop at bytes)
    → Holds p (Some (new_file (take at bytes))) before mid → Holds p (Some (new_file (take (at + n) bytes))) before (written mid p at piece)
wrote_here before mid p bytes piece at n l is h =
    let put = put_one mid p (record { body = file (spliced (content (get mid p)) at piece); mtime = time_of (get mid p) }) in
    record {
      others = λ q off. put.others q off ∙ h.others q off;
      here = put.here ∙ ap (λ o. Some (record { body = file (spliced (content o) at piece); mtime = time_of o })) h.here
          ∙ ap (λ x. Some (new_file (spliced (take at bytes) at x))) is ∙ ap (λ x. Some (new_file x)) (spliced_end bytes at n l);
    }

pub wrote_more : (R : Files → Type 0) (was mid now : Option Files) (p bytes piece : List ℕ) (at n : ℕ) → at + n ≤ length bytes
    → piece ≡ take n (drop at bytes) → is_some mid ≡ is_some was →
    IfSome was (λ before. IfSome mid (Holds p (Some (new_file (take at bytes))) before))
    → IfSome mid (λ files. R files × (now ≡ Some (written files p at piece))) →
    IfSome was (λ before. IfSome now (Holds p (Some (new_file (take (at + n) bytes))) before))
wrote_more R None mid now p bytes piece at n l is t h w = tt
wrote_more R (Some before) None now p bytes piece at n l is t h w = absurd (false≢true t)
wrote_more R (Some before) (Some files) now p bytes piece at n l is t h w =
    subst (λ o. IfSome o (Holds p (Some (new_file (take (at + n) bytes))) before)) (sym w.1) (wrote_here before files p bytes piece at n l is h)

-- all the steps together

follows : (p : List ℕ) (a b c : Files) → SameBut p a b → SameBut p b c → SameBut p a c
follows p a b c ab bc q off = bc q off ∙ ab q off

saved_here : (p bytes : List ℕ) (f0 f1 f2 f3 : Files) (r : Result (Unit {0}) SaveError) → can_save f0 p ≡ true → SameBut p f0 f1
    → SameBut p f1 f2 → OnOk r (Holds p (Some (new_file bytes)) f2 f3) → (r ≡ Err e.NoPlace → true ≡ false) → OnErr r (SameBut p f2 f3)
    → Saves p bytes f0 r (Some f3)
saved_here p bytes f0 f1 f2 f3 (Ok x) can a b done never rest = (
  can,
  ap Some (is_put p (new_file bytes) f0 f3
      (record { others = follows p f0 f2 f3 (follows p f0 f1 f2 a b) done.others; here = done.here })),
)
saved_here p bytes f0 f1 f2 f3 (Err e.NoPlace) can a b done never rest = absurd (false≢true (sym (never refl)))
saved_here p bytes f0 f1 f2 f3 (Err e.Failed) can a b done never rest = follows p f0 f2 f3 (follows p f0 f1 f2 a b) rest
saved_here p bytes f0 f1 f2 f3 (Err e.OutOfMemory) can a b done never rest = follows p f0 f2 f3 (follows p f0 f1 f2 a b) rest

saved_from : (p bytes : List ℕ) (n : Option Node) (t0 t1 t2 t3 : Option Files) (r : Result (Unit {0}) SaveError) → is_some t1 ≡ is_some t0
    → is_some t2 ≡ is_some t1 → is_some t3 ≡ is_some t2 →
    IfSome t0 (λ files. can_save files p ≡ true) → IfSome t0 (λ files. IfSome t1 (Holds p None files)) → IfSome t1 (λ files. IfSome t2 (Holds p n files)) →
    OnOk r (IfSome t2 (λ files. IfSome t3 (Holds p (Some (new_file bytes)) files))) → (r ≡ Err e.NoPlace → is_some t2 ≡ false)
    → OnErr r (IfSome t2 (λ files. IfSome t3 (SameBut p files))) →
    IfSome t0 (λ files. Saves p bytes files r t3)
saved_from p bytes n None t1 t2 t3 r i j k can a b done never rest = tt
saved_from p bytes n (Some f0) None t2 t3 r i j k can a b done never rest = absurd (false≢true i)
saved_from p bytes n (Some f0) (Some f1) None t3 r i j k can a b done never rest = absurd (false≢true j)
saved_from p bytes n (Some f0) (Some f1) (Some f2) None r i j k can a b done never rest = absurd (false≢true k)
saved_from p bytes n (Some f0) (Some f1) (Some f2) (Some f3) r i j k can a b done never rest =
    saved_here p bytes f0 f1 f2 f3 r can a.others b.others done never rest

pub saved : (p bytes : List ℕ) (n : Option Node) (was t0 t1 t2 t3 : Option Files) (r : Result (Unit {0}) SaveError) → t0 ≡ was
    → is_some t1 ≡ is_some t0 → is_some t2 ≡ is_some t1 → is_some t3 ≡ is_some t2 →
    IfSome was (λ files. can_save files p ≡ true) → IfSome t0 (λ files. IfSome t1 (Holds p None files)) → IfSome t1 (λ files. IfSome t2 (Holds p n files)) →
    OnOk r (IfSome t2 (λ files. IfSome t3 (Holds p (Some (new_file bytes)) files))) → (r ≡ Err e.NoPlace → is_some t2 ≡ false)
    → OnErr r (IfSome t2 (λ files. IfSome t3 (SameBut p files))) →
    IfSome was (λ files. Saves p bytes files r t3)
saved p bytes n was t0 t1 t2 t3 r same i j k can a b done never rest =
    subst (λ t. IfSome t (λ files. Saves p bytes files r t3)) same
    (saved_from p bytes n t0 t1 t2 t3 r i j k
    (subst (λ t. IfSome t (λ files. can_save files p ≡ true)) (sym same) can) a b done never rest)

-- where a file can be saved

pub no_parent : (l : ℕ) (o : Option (List ℕ)) (p : List ℕ) → o ≡ cond (l == 1) None (Some p) → o ≡ None → l ≡ 1
no_parent l o p e n = grind (arith, nat_tests)

pub has_parent : (l : ℕ) (o : Option (List ℕ)) (p x : List ℕ) → o ≡ cond (l == 1) None (Some p) → o ≡ Some x → (l ≢ 1) × (x ≡ p)
has_parent l o p x e s = (grind (arith, nat_tests), grind (arith, nat_tests))

pub can_long : (was : Option Files) (p over : List ℕ) (old : Bool) → length p ≢ 1 → over ≡ parent_of p
    → IfSome was (λ files. (can_put files p over ≡ true) × (is_file (get files p) ≡ old)) → IfSome was (λ files. can_save files p ≡ true)
can_long None p over old l e h = tt
can_long (Some files) p over old l e h = ap (λ r. not r && can_put files p (parent_of p)) (not_root p l) ∙ ap (can_put files p) (sym e) ∙ h.0

pub never_root : (was : Option Files) (p bytes : List ℕ) → refusal p ≡ None → length p ≡ 1 → IfSome was (λ files. Saves p bytes files (Err e.NoPlace) was)
never_root None p bytes v l = tt
never_root (Some files) p bytes v l = (ap (λ r. not r && can_put files p (parent_of p)) ((bytes_decides p (47 ∷ [])).1 (root_is p v l)), refl)
