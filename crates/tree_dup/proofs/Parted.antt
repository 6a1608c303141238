-- Candidates in piles: what stays so where a pile is divided or left out.
use Rattle.tree_dup.proofs.Prelude.{◌≡◌, ℕ, ◌+◌, ◌<◌, ◌≤◌, List, [], ◌∷◌, ◌++◌, length, Option, Some, None, IfSome, sym, ap, arith, get, Files, content, Entry}
use Rattle.tree_dup.proofs.Prelude.{times, times_in, joints_in, candidates_in, IsUndivided}
use Rattle.tree_dup.proofs.Piled.{divided_once, divided_joints, left_once, left_joints, times_in-split, joints_in-split}

abbrev pub Piles : Type 0
Piles = List (List (List ℕ))

-- what is so of every tree that may be told
pub if_any : (tree : Option Files) (P : Files → Type 0) → ((files : Files) → P files) → IfSome tree P
if_any None P f = tt
if_any (Some files) P f = f files

pub if_told : (tree : Option Files) (P Q : Files → Type 0) → ((files : Files) → P files → Q files) → IfSome tree P → IfSome tree Q
if_told None P Q f h = tt
if_told (Some files) P Q f h = f files h

pub if_both : (tree : Option Files) (P Q S : Files → Type 0) → ((files : Files) → P files → Q files → S files) → IfSome tree P → IfSome tree Q → IfSome tree S
if_both None P Q S f h g = tt
if_both (Some files) P Q S f h g = f files h g

-- the candidates of a list stand in piles, or were missed, or have bytes of their own
pub record AreParted (tree : Option Files) (list : List Entry) (missed : List ℕ → ℕ) (piles : Piles) : Type 0 where
  pub once : (p : List ℕ) → times_in p piles + missed p ≤ candidates_in list list p
  pub undivided : IfSome tree (IsUndivided list missed piles)

-- two paths of two piles never have the same bytes
abbrev pub Differ : Files → List (List ℕ) → List (List ℕ) → Type 0
Differ files one two = (p q : List ℕ) → 0 < times p one → 0 < times q two → content (get files p) ≡ content (get files q) → ⊥

-- a pile is divided into two, and some of its paths were missed
pub parted_divided : (tree : Option Files) (list : List Entry) (missed missed' : List ℕ → ℕ) (before : Piles) (pile one two : List (List ℕ)) (after : Piles) →
    ((p : List ℕ) → times p one + times p two + missed' p ≡ times p pile + missed p) → ((p : List ℕ) → missed p ≤ missed' p) →
    IfSome tree (λ files. Differ files one two) → AreParted tree list missed (before ++ pile ∷ after) →
    AreParted tree list missed' (before ++ one ∷ (two ∷ after))
parted_divided tree list missed missed' before pile one two after all more differ h = record {
  once = λ p. divided_once p before pile one two after (missed p) (missed' p) (candidates_in list list p) (omega (arith, all p)) (h.once p);
  undivided = if_both tree (λ files. Differ files one two) (IsUndivided list missed (before ++ pile ∷ after))
      (IsUndivided list missed' (before ++ one ∷ (two ∷ after)))
      (λ files apart u p q c d m n ne same.
      divided_joints p q before pile one two after (omega (arith, all p, more p)) (omega (arith, all q, more q))
      (λ a b. apart p q a b same) (λ a b. apart q p b a (sym same))
      (u p q c d (omega (arith, more p)) (omega (arith, more q)) ne same))
      differ h.undivided;
}

-- a pile of one path or none is left out
pub parted_left : (tree : Option Files) (list : List Entry) (missed : List ℕ → ℕ) (before : Piles) (pile : List (List ℕ)) (after : Piles) → length pile ≤ 1 →
    AreParted tree list missed (before ++ pile ∷ after) → AreParted tree list missed (before ++ after)
parted_left tree list missed before pile after short h = record {
  once = λ p. left_once p before pile after (missed p) (candidates_in list list p) (h.once p);
  undivided = if_told tree (IsUndivided list missed (before ++ pile ∷ after)) (IsUndivided list missed (before ++ after))
      (λ files u p q c d m n ne same. left_joints p q before pile after short ne (u p q c d m n ne same)) h.undivided;
}

-- all candidates that were not missed stand in one pile
pub parted_first : (tree : Option Files) (list : List Entry) (missed : List ℕ → ℕ) (before : Piles) (pile : List (List ℕ)) → before ≡ [] →
    ((p : List ℕ) → times p pile + missed p ≡ candidates_in list list p) → AreParted tree list missed (before ++ pile ∷ [])
parted_first tree list missed before pile none all = record {
  once = λ p. let e : times_in p before ≡ 0 = ap (times_in p) none in omega (arith, times_in-split p before pile [], all p);
  undivided = if_any tree (IsUndivided list missed (before ++ pile ∷ []))
      (λ files p q c d m n ne same.
      let e : joints_in p q before ≡ 0 = ap (joints_in p q) none in
      omega (arith, joints_in-split p q before pile [], all p, all q));
}
