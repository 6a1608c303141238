-- The last files of one size and one hash.
use Rattle.tree_dup.proofs.Prelude.{◌≡◌, ℕ, zero, suc, ◌+◌, ◌-◌, ◌<◌, ◌≤◌, Bool, true, false, ◌==◌, List, [], ◌∷◌, length, map, take, drop, get_or, All}
use Rattle.tree_dup.proofs.Prelude.{IsSorted, refl, sym, ap, ◌∙◌, arith, subst, is_lt, nat_cmp, Ordering, Less, Equal, Greater, first_so, second_so, slice_cmp}
use Rattle.tree_dup.proofs.Prelude.{slice_cmp-IsAntisymmetric, nat_cmp-IsAntisymmetric, IsStrictWeakOrder, ordering_reverse, ordering_then, false≢true}
use Rattle.tree_dup.proofs.Prelude.{eqb-true, eq-eqb, and_from, nat_list_cmp_total, drop-map, get_or_default, get_or-drop, get_or-take, take-map, ranks_by}
use Rattle.tree_dup.proofs.Prelude.{sorted_far, File, HasContent, IsRun, IsLastRun, content_cmp, same_content, still}
use Rattle.std.proofs.Common.{length-drop}

-- content by which files are in order
abbrev pub key : File → List ℕ
key f = f.size ∷ f.hash ∷ []

same_key : (a b : File) → same_content a b ≡ true → key a ≡ key b
same_key a b e =
    let sizes : a.size ≡ b.size = eqb-true a.size b.size (first_so (a.size == b.size) (a.hash == b.hash) e) in
    let hashes : a.hash ≡ b.hash = eqb-true a.hash b.hash (second_so (a.size == b.size) (a.hash == b.hash) e) in
    λ i. sizes i ∷ hashes i ∷ []

key_same : (a b : File) → key a ≡ key b → same_content a b ≡ true
key_same a b e =
    let sizes : a.size ≡ b.size = cc in
    let hashes : a.hash ≡ b.hash = cc in
    and_from (a.size == b.size) (a.hash == b.hash) (eq-eqb a.size b.size sizes) (eq-eqb a.hash b.hash hashes)

ties : (o p : Ordering) → o ≡ ordering_reverse p → is_lt o ≡ false → is_lt p ≡ false → o ≡ Equal
ties Less p r e f = absurd (false≢true (sym e))
ties Equal p r e f = refl
ties Greater Less r e f = absurd (false≢true (sym f))
ties Greater _ r e f = cc

then_equal : (o : Ordering) → ordering_then o Equal ≡ o
then_equal Less = refl
then_equal _ = refl

-- the order by content is that of the keys
same_cmp : (a b : File) → slice_cmp nat_cmp (key a) (key b) ≡ content_cmp a b
same_cmp a b = ap (ordering_then (nat_cmp a.size b.size)) (then_equal (nat_cmp a.hash b.hash))

pub content_ranks : IsStrictWeakOrder (λ (a b : File). is_lt (content_cmp a b))
content_ranks =
    subst (λ (lt : File → File → Bool). IsStrictWeakOrder lt) (λ i a b. is_lt (same_cmp a b i)) (ranks_by nat_list_cmp_total key)

-- files of which neither comes before the other are of one content
level : (a b : File) → is_lt (content_cmp a b) ≡ false → is_lt (content_cmp b a) ≡ false → key a ≡ key b
level a b e f =
    slice_cmp-IsAntisymmetric nat_cmp-IsAntisymmetric (key a) (key b)
    (same_cmp a b ∙ ties (content_cmp a b) (content_cmp b a)
    (sym (same_cmp a b) ∙ nat_list_cmp_total.antisymm (key a) (key b) ∙ ap ordering_reverse (same_cmp b a)) e f)

abbrev pub AreFrom : List File → ℕ → ℕ → Type 0
AreFrom files start last = (k : ℕ) (d : File) → start ≤ k → k < length files → same_content (get_or files k d) (get_or files last d) ≡ true

pub only_last : (files : List File) (last : ℕ) → length files ≡ last + 1 → AreFrom files last last
only_last files last e k d l m =
    key_same (get_or files k d) (get_or files last d) (ap (λ i. key (get_or files i d)) (let i : k ≡ last = omega arith in i))

pub last_run : (files : List File) (start last : ℕ) (x y : File) → IsSorted content_cmp files → length files ≡ last + 1 → start ≤ last →
    AreFrom files start last →
    (0 < start → (x ≡ get_or files (start - 1) x) × (y ≡ get_or files last y) × (same_content x y ≡ false)) → IsLastRun files start
last_run files start last x y up e l h stop = record {
  inside = omega arith;
  run = record {
    size = (get_or files last y).size;
    hash = (get_or files last y).hash;
    all = λ k d m.
        let here : same_content (get_or files (start + k) y) (get_or files last y) ≡ true =
        h (start + k) y (omega arith) (omega (arith, m, length-drop start files)) in
        let same : key (get_or files (start + k) y) ≡ key (get_or files last y) = same_key (get_or files (start + k) y) (get_or files last y) here in
        let at : get_or (drop start files) k d ≡ get_or files (start + k) y =
        get_or-drop start files k d ∙ get_or_default files (start + k) d y (omega (arith, m, length-drop start files)) in
        subst (HasContent (get_or files last y).size (get_or files last y).hash) (sym at) (record { of_size = cc; of_hash = cc });
  };
  others = λ j k d m n inside. by j k d m n inside (same_content (get_or files j d) (get_or files k d)) refl;
}
  where
    far : (i j : ℕ) (d : File) → i ≤ j → j < length files → is_lt (content_cmp (get_or files j d) (get_or files i d)) ≡ false
    far = sorted_far (λ a b. is_lt (content_cmp a b)) content_ranks files up

    by : (j k : ℕ) (d : File) → j < start → start ≤ k → k < length files → (b : Bool) → same_content (get_or files j d) (get_or files k d) ≡ b →
        same_content (get_or files j d) (get_or files k d) ≡ false
    by j k d m n inside false z = z
    by j k d m n inside true z =
        let s = stop (omega arith) in
        let before = get_or files (start - 1) d in
        let one : key (get_or files j d) ≡ key (get_or files last d) =
        same_key (get_or files j d) (get_or files k d) z ∙ same_key (get_or files k d) (get_or files last d) (h k d n inside) in
        let up_to : is_lt (content_cmp before (get_or files j d)) ≡ false = far j (start - 1) d (omega arith) (omega arith) in
        let from : is_lt (content_cmp (get_or files last d) before) ≡ false = far (start - 1) last d (omega arith) (omega arith) in
        let from' : is_lt (content_cmp (get_or files j d) before) ≡ false =
        ap is_lt (sym (same_cmp (get_or files j d) before)) ∙ ap (λ (c : List ℕ). is_lt (slice_cmp nat_cmp c (key before))) one
        ∙ ap is_lt (same_cmp (get_or files last d) before) ∙ from in
        let same : key before ≡ key (get_or files last d) = level before (get_or files j d) up_to from' ∙ one in
        let x_is : get_or files (start - 1) d ≡ x = get_or_default files (start - 1) d x (omega arith) ∙ sym s.0 in
        let y_is : get_or files last d ≡ y = get_or_default files last d y (omega arith) ∙ sym s.1 in
        absurd (false≢true (sym s.2 ∙ (λ i. same_content (sym x_is i) (sym y_is i)) ∙ key_same before (get_or files last d) same))

-- ---- what is left in front

pub sorted_take : (files : List File) (n : ℕ) → IsSorted content_cmp files → IsSorted content_cmp (take n files)
sorted_take files n up k d l m =
    let a : k + 1 < n = in_front files n (k + 1) m in
    (λ i. is_lt (content_cmp (get_or-take n files (k + 1) d a i) (get_or-take n files k d (omega arith) i))) ∙ up k d l (in_all files n (k + 1) m)
  where
    in_front : (xs : List File) (n k : ℕ) → k < length (take n xs) → k < n
    in_front xs zero k l = absurd (omega arith)
    in_front [] (suc n) k l = absurd (omega arith)
    in_front (x ∷ xs) (suc n) zero l = omega arith
    in_front (x ∷ xs) (suc n) (suc k) l = (let r = in_front xs n k (omega arith) in omega arith)

    in_all : (xs : List File) (n k : ℕ) → k < length (take n xs) → k < length xs
    in_all xs zero k l = absurd (omega arith)
    in_all [] (suc n) k l = absurd (omega arith)
    in_all (x ∷ xs) (suc n) zero l = omega arith
    in_all (x ∷ xs) (suc n) (suc k) l = (let r = in_all xs n k (omega arith) in omega arith)

pub still_take : (n : ℕ) (files : List File) → map still files ≡ files → map still (take n files) ≡ take n files
still_take n files e = sym (take-map still n files) ∙ ap (take n) e

pub still_drop : (n : ℕ) (files : List File) → map still files ≡ files → map still (drop n files) ≡ drop n files
still_drop n files e = sym (drop-map still n files) ∙ ap (drop n) e

-- a run is of the size and the hash of any of its files
pub run_of : (run : List File) (k : ℕ) (x : File) → k < length run → x ≡ get_or run k x → IsRun run → All (HasContent x.size x.hash) run
run_of run k x l e r j d m =
    let a = r.all k x l in
    let b = r.all j d m in
    let sizes : x.size ≡ r.size = ap (λ (f : File). f.size) e ∙ a.of_size in
    let hashes : x.hash ≡ r.hash = ap (λ (f : File). f.hash) e ∙ a.of_hash in
    record { of_size = b.of_size ∙ sym sizes; of_hash = b.of_hash ∙ sym hashes }

-- all files are of one content
pub last_run_whole : (files : List File) (start : ℕ) → 0 < length files → IsSorted content_cmp files → start ≡ 0 → AreFrom files start (length files - 1) →
    IsLastRun files start
last_run_whole [] start some up begun h = absurd (omega arith)
last_run_whole (f ∷ files) start some up begun h =
    last_run (f ∷ files) start (length (f ∷ files) - 1) f f up (omega arith) (omega arith) h (λ later. absurd (omega arith))
