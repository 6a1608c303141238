-- What a call that writes answers where it is refused.
use Rattle.files_mem.proofs.Prelude.{◌≡◌, ℕ, Bool, true, false, cond, ◌||◌, ◌⊎◌, inl, inr, is_some, List, Option, Some, None, refl, ap, ◌∙◌, sym, subst}
use Rattle.files_mem.proofs.Prelude.{false≢true, Result, Err, get, parent_of, Files, Node, is_file, is_dir, Cut, all_but, under, is_top, make_refusal}
use Rattle.files_mem.proofs.Prelude.{write_refusal, Answers, may_change, WriteError, Call, is_planned, PutError, Memory, Acts, put_refusal, put_refusal_at}
use Rattle.files_mem.proofs.Prelude.{write_error}
use Rattle.outside.specs.declared.plots.WriteError.TheVariants as e
use Rattle.files_mem.specs.declared.errors.PutError.TheVariants as put

-- a refusal that is no fault
abbrev pub is_named : WriteError → Bool
is_named e.Failed = false
is_named e.OutOfMemory = false
is_named e.Exists = true
is_named e.NoParent = true
is_named e.Absent = true
is_named e.WrongKind = true
is_named e.NotEmpty = true

pub acts_refused : (call : Call) (path : List ℕ) (refusal : Option WriteError) (after : Files) (before new : Memory) (r : WriteError)
    → is_named r ≡ true → is_planned call path before.planned ≡ false → refusal ≡ Some r → new ≡ before
    → Acts call path refusal after before (Err r) new
acts_refused call path refusal after before new e.Failed n p is same = absurd (false≢true n)
acts_refused call path refusal after before new e.OutOfMemory n p is same = (p, same)
acts_refused call path refusal after before new e.Exists n p is same = (p, (is, same))
acts_refused call path refusal after before new e.NoParent n p is same = (p, (is, same))
acts_refused call path refusal after before new e.Absent n p is same = (p, (is, same))
acts_refused call path refusal after before new e.WrongKind n p is same = (p, (is, same))
acts_refused call path refusal after before new e.NotEmpty n p is same = (p, (is, same))

pub answers_refused : (path : List ℕ) (refusal : Option WriteError) (before after : Files) (new : Option Files) (r : WriteError)
    → is_named r ≡ true → refusal ≡ Some r → new ≡ Some before → Answers path refusal before after (Err r) new
answers_refused path refusal before after new e.Failed n is same = absurd (false≢true n)
answers_refused path refusal before after new e.OutOfMemory n is same = same
answers_refused path refusal before after new e.Exists n is same = (is, same)
answers_refused path refusal before after new e.NoParent n is same = (is, same)
answers_refused path refusal before after new e.Absent n is same = (is, same)
answers_refused path refusal before after new e.WrongKind n is same = (is, same)
answers_refused path refusal before after new e.NotEmpty n is same = (is, same)

-- a refusal to write bytes
pub write_named : (o : Option Node) (r : WriteError) → write_refusal o ≡ Some r → (is_named r ≡ true) × (may_change r ≡ true)
write_named None r h = by r h
  where
    by : (r : WriteError) → Some e.Absent ≡ Some r → (is_named r ≡ true) × (may_change r ≡ true)
    by e.Absent h = (refl, refl)
    by e.WrongKind h = (refl, refl)
    by e.Failed h = cc
    by e.OutOfMemory h = cc
    by e.Exists h = cc
    by e.NoParent h = cc
    by e.NotEmpty h = cc
write_named (Some n) r h = by (is_file (Some n)) r h
  where
    by : (b : Bool) (r : WriteError) → cond b None (Some e.WrongKind) ≡ Some r → (is_named r ≡ true) × (may_change r ≡ true)
    by true r h = cc
    by false e.Absent h = (refl, refl)
    by false e.WrongKind h = (refl, refl)
    by false e.Failed h = cc
    by false e.OutOfMemory h = cc
    by false e.Exists h = cc
    by false e.NoParent h = cc
    by false e.NotEmpty h = cc

pub never_failed : (r : WriteError) → is_named r ≡ true → ◌≡◌ {A = Result (Unit {0}) WriteError} (Err r) (Err e.Failed) → ⊥
never_failed e.Failed n f = false≢true n
never_failed e.OutOfMemory n f = cc
never_failed e.Exists n f = cc
never_failed e.NoParent n f = cc
never_failed e.Absent n f = cc
never_failed e.WrongKind n f = cc
never_failed e.NotEmpty n f = cc

-- a refusal to make a node, as that to put one says it

like : (o b : Bool) (r : PutError) → cond o (Some put.Exists) (cond b None (Some put.NoParent)) ≡ Some r
    → (cond o (Some e.Exists) (cond b None (Some e.NoParent)) ≡ Some (write_error r)) × (is_named (write_error r) ≡ true)
like true b put.Exists h = (refl, refl)
like true b put.NoParent h = cc
like true b put.OutOfMemory h = cc
like false true r h = cc
like false false put.NoParent h = (refl, refl)
like false false put.Exists h = cc
like false false put.OutOfMemory h = cc

none_like : (o b : Bool) → cond o (Some put.Exists) (cond b None (Some put.NoParent)) ≡ None → cond o (Some e.Exists) (cond b None (Some e.NoParent)) ≡ None
none_like true b h = cc
none_like false true h = refl
none_like false false h = cc

pub made_refused : (call : Call) (path : List ℕ) (tops : List (List ℕ)) (after : Files) (before new : Memory) (r : PutError)
    (w : WriteError) → put_refusal_at (is_top (under tops) path) before.files path ≡ Some r → before.area ≡ under tops → w ≡ write_error r →
    is_planned call path before.planned ≡ false → new ≡ before → Acts call path (make_refusal before.area before.files path) after before (Err w) new
made_refused call path tops after before new r w h area is planned same =
    let l = like (is_some (get before.files path)) (is_top (under tops) path || is_dir (get before.files (parent_of path))) r h in
    subst (λ x. Acts call path (make_refusal before.area before.files path) after before (Err x) new) (sym is)
    (acts_refused call path (make_refusal before.area before.files path) after before new (write_error r) l.1 planned
    (ap (λ a. make_refusal a before.files path) area ∙ l.0) same)

pub made_free : (path : List ℕ) (tops : List (List ℕ)) (before : Memory)
    → put_refusal_at (is_top (under tops) path) before.files path ≡ None → before.area ≡ under tops
    → make_refusal before.area before.files path ≡ None
made_free path tops before h area = ap (λ a. make_refusal a before.files path) area
    ∙ none_like (is_some (get before.files path)) (is_top (under tops) path || is_dir (get before.files (parent_of path))) h

pub ground_refused : (call : Call) (path : List ℕ) (lent : List (List (List ℕ))) (cut : List Cut) (after : Files) (before new : Memory) (r : PutError)
    → (put_refusal before.files path ≡ Some r) ⊎ (r ≡ put.OutOfMemory) → before.area ≡ all_but lent cut →
    is_planned call path before.planned ≡ false → new ≡ before
    → Acts call path (make_refusal before.area before.files path) after before (Err (write_error r)) new
ground_refused call path lent cut after before new r (inl h) area planned same =
    let l = like (is_some (get before.files path)) (is_dir (get before.files (parent_of path))) r h in
    acts_refused call path (make_refusal before.area before.files path) after before new (write_error r) l.1 planned
    (ap (λ a. make_refusal a before.files path) area ∙ l.0) same
ground_refused call path lent cut after before new r (inr h) area planned same =
    subst (λ x. Acts call path (make_refusal before.area before.files path) after before (Err (write_error x)) new) (sym h) (planned, same)
