-- What a stage begins with: nothing done and the roots, or what the checkpoint in its folder holds.
use Rattle.stage_report.proofs.Prelude.{◌≡◌, ℕ, ◌<◌, List, [], ◌∷◌, length, Option, Some, None, IfSome, refl, sym, ap, ◌∙◌, subst, arith, All, get}
use Rattle.stage_report.proofs.Prelude.{All-from_recursion, Files, HoldsFile, Entry, Spells, HoldLists, Valid, answer_in, entry_of, RootsAreUnique, IsCut, Side}
use Rattle.stage_report.proofs.Prelude.{IsKept, IsCheckpoint, list_path, CheckpointsAreOne, CutsAreLocal, all_of, Begins, BeginsWalk}

-- what is so of files that tell their tree
pub of_told : (P : Files → Type 0) (tree : Option Files) (files : Files) → tree ≡ Some files → IfSome tree P → P files
of_told P tree files told h = subst (λ t. IfSome t P) told h

pub some_of : {X : Type 0} (xs : List X) → ((xs ≡ []) → ⊥) → 0 < length xs
some_of [] h = absurd (h refl)
some_of (x ∷ xs) h = omega arith

-- ---- a checkpoint that was read is the one that the folder holds

pub held : (dir : List ℕ) (before : Side) (done : List Entry) (left : List (List (List ℕ))) (files : Files) → before.tree ≡ Some files →
    IsCheckpoint dir before done left → IsKept dir done left files
held dir before done left files told c = record {
  list = of_told (λ files. (bytes : List ℕ) × HoldsFile bytes (get files (list_path dir)) × Spells bytes done) before.tree files told c.list.told;
  ranks = of_told (HoldLists dir left) before.tree files told c.ranks;
}

-- what a stage goes on from, where the folder holds these done entries and left strings
pub record GoesOn (done kept : List Entry) (starts : List (List ℕ)) (left : List (List (List ℕ))) : Type 0 where
  pub same_done : kept ≡ done
  pub same_left : all_of left ≡ starts

pub goes_on : CheckpointsAreOne → (dir : List ℕ) (before : Side) (files : Files) (done kept : List Entry) (starts : List (List ℕ))
    (left : List (List (List ℕ))) → before.tree ≡ Some files → 0 < length left → IsKept dir kept left files → Begins None dir before done starts →
    GoesOn done kept starts left
goes_on one dir before files done kept starts left told some is b =
    let same = one dir kept done left b.0 files some b.1.number.within is (held dir before done b.0 files told b.1) in
    record { same_done = same.0; same_left = ap all_of same.1 ∙ sym b.2 }

-- ---- a stage begins at a cut

-- where nothing is done all starts are left
pub nothing_done : (files : Files) (starts : List (List ℕ)) → IsCut files starts [] starts
nothing_done files starts = record {
  own = All-from_recursion (λ (e : Entry). e ≡ entry_of (answer_in e) (get files e.path) e.path) [] tt;
  balance = record { weighs = λ weight. omega arith };
}

-- the laws that this rests on
pub record Laws : Type 0 where
  pub one_roots : RootsAreUnique
  pub one_kept : CheckpointsAreOne
  pub local : CutsAreLocal

pub begins_at_cut : Laws → (given : Option (List (List ℕ))) (dir : List ℕ) (before : Side) (files : Files) (starts walked : List (List ℕ))
    (done : List Entry) → IfSome given (All Valid) → before.tree ≡ Some files → BeginsWalk given dir files starts → Begins given dir before done walked →
    IsCut files starts done walked
begins_at_cut laws (Some given) dir before files starts walked done valid told are b =
    let same : walked ≡ starts = laws.one_roots given walked starts valid b.1 are in
    subst (λ d. IsCut files starts d walked) (sym b.0) (subst (IsCut files starts []) (sym same) (nothing_done files starts))
begins_at_cut laws None dir before files starts walked done valid told h b =
    let on = goes_on laws.one_kept dir before files done h.done walked h.left told (some_of h.left h.some_rank) h.kept b in
    let cut = laws.local h.walked files starts (all_of h.left) h.done h.tree h.same h.cut in
    subst (λ d. IsCut files starts d walked) on.same_done (subst (IsCut files starts h.done) on.same_left cut)
