-- Counts of faults while files are read, and the first of several readers, which goes on after all read together.
use Rattle.tree_dup.proofs.Prelude.{◌≡◌, ℕ, zero, suc, ◌+◌, ◌-◌, ◌^◌, ◌<◌, ◌≤◌, List, length, map, get_or, set, min, refl, sym, ap, subst, ◌∙◌, arith, All}
use Rattle.tree_dup.proofs.Prelude.{Option, Result, Ok, Err, OnOk, Asks, RoseBy, Files, NoneFell, KeepsUp, KeepUp, keeps_still, then_fell, then_kept, then_rose}
use Rattle.tree_dup.proofs.Prelude.{first_same, still_some, first_told, all_tell, first_tree, HaveCauses, Grouping, ReadOn}
use Rattle.shared_reads.specs.Counts.{RoseTogether}
use Rattle.tree_cmp.specs.Readers.{Alike}

-- ---- one count

-- of none told before
pub keeps_rose : (n m a b : ℕ) → n ≡ 0 → KeepsUp n m a b → RoseBy m a b
keeps_rose n m a b e k = record { kept = k.kept; rose = by (min (a + m) (2 ^ 64 - 1) - b) refl }
  where
    by : (j : ℕ) → min (a + m) (2 ^ 64 - 1) - b ≡ j → min (a + m) (2 ^ 64 - 1) ≤ b
    by zero z = omega (arith, z)
    by (suc j) z = let r = k.rose (omega (arith, z)) in omega (arith, z, r, e)

-- one more place
pub kept_more : (b m n k h k' x y z : ℕ) → KeepsUp b (m + k) x y → KeepsUp k (h + k') y z → n ≡ m + h → KeepsUp b (n + k') x z
kept_more b m n k h k' x y z f g e = record {
  kept = omega (arith, f.kept, g.kept);
  rose = λ below. let s = g.rose below in let r = f.rose (omega (arith, below, g.kept)) in omega (arith, r, s, e);
}

pub kept_then : (b m n k h k' x y z : ℕ) → KeepsUp b (m + k) x y → h + k' ≤ k → KeepsUp (m + h) n y z → KeepsUp b (n + k') x z
kept_then b m n k h k' x y z f l g = record {
  kept = omega (arith, f.kept, g.kept);
  rose = λ below. let s = g.rose below in let r = f.rose (omega (arith, below, g.kept)) in omega (arith, r, s, l);
}

pub told_before : (m n c : ℕ) → m ≡ n → KeepsUp m n c c
told_before m n c e = record { kept = omega arith; rose = λ below. omega (arith, e) }

pub kept_none : (m n x y : ℕ) → m ≡ 0 → KeepsUp m n x y → (b : ℕ) → KeepsUp b n x y
kept_none m n x y none f b = record { kept = f.kept; rose = λ below. let r = f.rose below in omega (arith, r, none) }

-- ---- files are divided

module _ {R : Type 0} {tree : R → Option Files} {count : R → ℕ} {gives : Asks R} where
  pub read_none : (n : ℕ) (r : R) (found : Grouping) → ReadOn tree count gives n n r r found found
  read_none n r found = record { same = refl; counted = keeps_still _ _; causes = λ h. h }

  -- one more run is divided, of which so many of the failed reads were told
  pub read_more : {b k : ℕ} {r s : R} {found mid : Grouping} → ReadOn tree count gives b k r s found mid → (h k' : ℕ) → h + k' ≤ k → (t : R) (last : Grouping)
      → tree t ≡ tree s → KeepsUp (length mid.failed + h) (length last.failed) (count s) (count t) → (HaveCauses gives mid → HaveCauses gives last)
      → ReadOn tree count gives b k' r t found last
  read_more so_far h k' told t last same counted causes = record {
    same = same ∙ so_far.same;
    counted = kept_then _ _ _ _ h _ _ _ _ so_far.counted told counted;
    causes = λ c. causes (so_far.causes c);
  }

-- ---- the first of several readers

-- the reader x is the first of those that read together, and these tell the trees that they told before
pub record IsFirst {R : Type 0} (tree : R → Option Files) (readers others : List R) (x : R) : Type 0 where
  pub some : 0 < length readers
  pub same : map tree others ≡ map tree readers
  pub at : x ≡ get_or others 0 x

module _ {R : Type 0} {tree : R → Option Files} {readers others : List R} {x : R} (first : IsFirst tree readers others x) where
  there : 0 < length others
  there = still_some tree readers others first.same first.some

  pub tells : tree x ≡ first_told (map tree readers)
  tells = ap tree first.at ∙ first_tree tree others x there ∙ ap first_told first.same

  -- what all kept holds of the tree that it tells
  pub holds_told : {A : Type 0} (P : Option Files → A → Type 0) (a b : A) → a ≡ b → Alike (map tree readers)
      → ((told : Option Files) → All (λ r. tree r ≡ told) readers → P told a) → P (tree x) b
  holds_told P a b e alike holds =
      subst (P (tree x)) e (subst (λ told. P told a) (sym tells) (holds (first_told (map tree readers)) (all_tell tree readers alike)))

  -- it reads on as y
  pub same_told : (y : R) → tree y ≡ tree x → map tree (set others 0 y) ≡ map tree readers
  same_told y e = first_same tree others x y there (e ∙ ap tree first.at) ∙ first.same

  module _ (count : R → ℕ) (y : R) (fell : NoneFell (map count readers) (map count others)) (on : RoseBy 0 (count x) (count y)) where
    kept : count (get_or others 0 x) ≤ count y
    kept = subst (λ n. n ≤ count y) (ap count first.at) on.kept

    pub none_falls : NoneFell (map count readers) (map count (set others 0 y))
    none_falls = then_fell count readers others x y there fell kept

    pub keep_on : (b a h : ℕ) → RoseTogether h (map count readers) (map count others) → KeepsUp (b + h) a (count x) (count y)
        → KeepUp b a (map count readers) (map count (set others 0 y))
    keep_on b a h rose k =
        then_kept count readers others x y there fell kept b a h rose (subst (λ n. KeepsUp (b + h) a n (count y)) (ap count first.at) k)

    pub rise_on : (a h : ℕ) → RoseTogether h (map count readers) (map count others) → KeepsUp h a (count x) (count y)
        → RoseTogether a (map count readers) (map count (set others 0 y))
    rise_on a h rose k =
        then_rose count readers others x y there fell kept a h rose (subst (λ n. KeepsUp h a n (count y)) (ap count first.at) k)

-- ---- an outcome

pub on_one : {X E : Type 0} (result : Result X E) (P Q : Type 0) → (P → Q) → OnOk result P → OnOk result Q
on_one (Ok x) P Q f p = f p
on_one (Err e) P Q f p = tt
