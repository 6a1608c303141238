-- The old list file is removed, or why it is not.
use Rattle.checkpoints.proofs.Prelude.{◌≡◌, inl, inr, ℕ, Bool, true, false, cond, List, Option, Some, None, refl, sym, subst, ⊤, IfSome, IsTrue, OnErr, OnOk}
use Rattle.checkpoints.proofs.Prelude.{Result, Ok, Err, false≢true, get, remove, Files, Node, is_dir, Answers, SameBut, may_change, remove_file_refusal}
use Rattle.checkpoints.proofs.Prelude.{WriteError, removed_one, Stop, IsGone, IsMeant}
use Rattle.outside.specs.declared.plots.WriteError.TheVariants as write
use Rattle.outside.proofs.Saved.{refused as all_but_one}

-- what the removal of a file at the path answered, over files that tell their tree
abbrev pub Removal : List ℕ → Files → Result (Unit {0}) WriteError → Option Files → Type 0
Removal path files result new = Answers path (remove_file_refusal (get files path)) files (remove files path) result new

absent_only : (node : Option Node) → remove_file_refusal node ≡ Some write.Absent → node ≡ None
absent_only None e = refl
absent_only (Some node) e = absurd (never (is_dir (Some node)) e)
  where
    never : (b : Bool) → cond b (Some write.WrongKind) None ≡ Some write.Absent → ⊥
    never true e = cc
    never false e = cc

wrong_only : (node : Option Node) → remove_file_refusal node ≡ Some write.WrongKind → is_dir node ≡ true
wrong_only None e = absurd (other e)
  where
    other : Some write.Absent ≡ Some write.WrongKind → ⊥
    other e = cc
wrong_only (Some node) e = by_kind (is_dir (Some node)) e
  where
    by_kind : (b : Bool) → cond b (Some write.WrongKind) None ≡ Some write.WrongKind → b ≡ true
    by_kind true e = refl
    by_kind false e = cc

pub removed_gone : (path : List ℕ) (old new : Option Files) → IfSome old (λ files. Removal path files (Ok tt) new) →
    IfSome old (λ files. IfSome new (IsGone path files))
removed_gone path None new told = tt
removed_gone path (Some files) new told =
    let one = removed_one files path in
    subst (λ o. IfSome o (IsGone path files)) (sym told.1) (record { others = one.others; gone = inl one.here })

absent_gone : (path : List ℕ) (files : Files) (new : Option Files) → Removal path files (Err write.Absent) new → IfSome new (IsGone path files)
absent_gone path files new told =
    subst (λ o. IfSome o (IsGone path files)) (sym told.1) (record { others = λ q off. refl; gone = inl (absent_only (get files path) told.0) })

wrong_gone : (path : List ℕ) (files : Files) (new : Option Files) → Removal path files (Err write.WrongKind) new → IfSome new (IsGone path files)
wrong_gone path files new told =
    subst (λ o. IfSome o (IsGone path files)) (sym told.1) (record { others = λ q off. refl; gone = inr (wrong_only (get files path) told.0, refl) })

-- where the refusal does not stop, nothing or a directory is there
pub refused_gone : (path : List ℕ) (refused : WriteError) (result : Result (Unit {0}) Stop) (old new : Option Files) → IsTrue (may_change refused) →
    IsMeant refused path result → IfSome old (λ files. Removal path files (Err refused) new) →
    OnOk result (IfSome old (λ files. IfSome new (IsGone path files)))
refused_gone path write.Failed result old new may (inl is) told = subst (λ r. OnOk r (IfSome old (λ files. IfSome new (IsGone path files)))) (sym is) tt
refused_gone path write.Failed result old new may (inr is) told = subst (λ r. OnOk r (IfSome old (λ files. IfSome new (IsGone path files)))) (sym is) tt
refused_gone path write.OutOfMemory result old new may is told = subst (λ r. OnOk r (IfSome old (λ files. IfSome new (IsGone path files)))) (sym is) tt
refused_gone path write.Exists result old new may is told = absurd (false≢true may)
refused_gone path write.NoParent result old new may is told = absurd (false≢true may)
refused_gone path write.NotEmpty result old new may is told = absurd (false≢true may)
refused_gone path write.WrongKind result None new may is told = subst (λ r. OnOk r ⊤) (sym is) tt
refused_gone path write.WrongKind result (Some files) new may is told =
    subst (λ r. OnOk r (IfSome new (IsGone path files))) (sym is) (wrong_gone path files new told)
refused_gone path write.Absent result None new may is told = subst (λ r. OnOk r ⊤) (sym is) tt
refused_gone path write.Absent result (Some files) new may is told =
    subst (λ r. OnOk r (IfSome new (IsGone path files))) (sym is) (absent_gone path files new told)

pub on_err : {A B : Type 0} (X : Type 0) (result : Result A B) → X → OnErr result X
on_err X (Ok a) x = tt
on_err X (Err e) x = x

of_tree : (path : List ℕ) (refused : WriteError) (old new : Option Files) → IfSome old (λ files. Removal path files (Err refused) new) →
    IfSome old (λ files. IfSome new (SameBut path files))
of_tree path refused None new told = tt
of_tree path refused (Some files) new told = all_but_one path (remove_file_refusal (get files path)) files (remove files path) refused new told

-- and every other path is as before
pub refused_same : (path : List ℕ) (refused : WriteError) (result : Result (Unit {0}) Stop) (old new : Option Files) →
    IfSome old (λ files. Removal path files (Err refused) new) → OnErr result (IfSome old (λ files. IfSome new (SameBut path files)))
refused_same path refused result old new told =
    on_err (IfSome old (λ files. IfSome new (SameBut path files))) result (of_tree path refused old new told)
