-- Files that are divided step by step: at first all candidates, then a run of one size and one hash, then those of other bytes.
use Rattle.tree_dup.proofs.Prelude.{◌≡◌, ℕ, ◌+◌, ◌<◌, ◌≤◌, true, ◌==◌, List, [], ◌∷◌, ◌++◌, length, map, take, drop, get_or, Option, Some, None, IfSome, All}
use Rattle.tree_dup.proofs.Prelude.{IsPermutation, sym, ap, subst, ◌∙◌, arith, get, false≢true, eq-eqb, and_from, get_or_default, get_or-drop, get_or-take}
use Rattle.tree_dup.proofs.Prelude.{length-map, map-append, length-take-le, take-append-drop, All-nil, All-cons, All-head, All-tail, All-take, All-drop}
use Rattle.tree_dup.proofs.Prelude.{All-map, All-permutation, IsPermutation-map, Files, content, Entry, Grouping, File, content_hash, times, IsLastRun}
use Rattle.tree_dup.proofs.Prelude.{paths_of, same_content, IsHashed, IsMade, AreSifted, AreHashed, candidates_in, misses, piles_of}
use Rattle.std.proofs.Common.{length-drop}
use Rattle.tree_dup.proofs.Piled.{times-append, times-permutation, have}
use Rattle.tree_dup.proofs.Parted.{AreParted, Differ, parted_divided, parted_left, parted_first}

abbrev pub path_of : File → List ℕ
path_of f = f.path

-- ---- the candidates, once all are hashed and put in order

pub sifted_first : (tree : Option Files) (list : List Entry) (files files' : List File) (found : Grouping) → IsPermutation files files' →
    AreHashed tree list files found → AreSifted tree list (files' ∷ []) found
sifted_first tree list files files' found moved h =
    let same : (p : List ℕ) → times p (paths_of files') ≡ times p (paths_of files) =
    λ p. times-permutation p (paths_of files) (paths_of files') (IsPermutation-map path_of files files' moved) in
    let all : (p : List ℕ) → times p (paths_of files') + misses found p ≡ candidates_in list list p =
    λ p. ap (λ n. n + misses found p) (same p) ∙ h.all p in
    let parted : AreParted tree list (misses found) (piles_of found.groups ++ paths_of files' ∷ []) =
    parted_first tree list (misses found) (piles_of found.groups) (paths_of files') (ap piles_of h.none) all in
    record {
      hashed = All-cons (λ pile. All (IsHashed tree list) pile) files' [] (All-permutation (IsHashed tree list) files files' moved h.hashed)
          (All-nil (λ pile. All (IsHashed tree list) pile));
      missed = h.missed;
      made = subst (All (IsMade tree list)) (sym h.none) (All-nil (IsMade tree list));
      once = parted.once;
      undivided = parted.undivided;
    }

-- ---- a run is taken off the end

-- files of the same bytes have one size and one hash
same_files : (tree : Files) (list : List Entry) (f g : File) → IsHashed (Some tree) list f → IsHashed (Some tree) list g →
    content (get tree f.path) ≡ content (get tree g.path) → same_content f g ≡ true
same_files tree list f g h k e =
    let sizes : f.size ≡ g.size = sym h.there.size ∙ ap length e ∙ k.there.size in
    let hashes : f.hash ≡ g.hash = h.hash ∙ ap content_hash e ∙ sym k.hash in
    and_from (f.size == g.size) (f.hash == g.hash) (eq-eqb f.size g.size sizes) (eq-eqb f.hash g.hash hashes)

-- of two piles of files, any two
two_have : (P : List ℕ → List ℕ → Type 0) (p q : List ℕ) (xs ys : List File) →
    ((i j : ℕ) (d e : File) → i < length xs → j < length ys → P (get_or xs i d).path (get_or ys j e).path) →
    0 < times p (paths_of xs) → 0 < times q (paths_of ys) → P p q
two_have P p q xs ys h l m =
    have (λ x. P x q) p (paths_of xs)
    (All-map (λ x. P x q) path_of xs (λ i d k. have (P (get_or xs i d).path) q (paths_of ys) (All-map (P (get_or xs i d).path) path_of ys
    (λ j e n. h i j d e k n)) m))
    l

cut_times : (p : List ℕ) (files : List File) (k : ℕ) → times p (paths_of (drop k files)) + times p (paths_of (take k files)) ≡ times p (paths_of files)
cut_times p files k =
    let e : paths_of files ≡ paths_of (take k files) ++ paths_of (drop k files) =
    ap paths_of (sym (take-append-drop k files)) ∙ map-append path_of (take k files) (drop k files) in
    omega (arith, times-append p (paths_of (take k files)) (paths_of (drop k files)), ap (times p) e)

cut_differ : (tree : Files) (list : List Entry) (files : List File) (start : ℕ) → All (IsHashed (Some tree) list) files → IsLastRun files start →
    Differ tree (paths_of (drop start files)) (paths_of (take start files))
cut_differ tree list files start hashed last p q l m same =
    two_have (λ x y. content (get tree x) ≡ content (get tree y) → ⊥) p q (drop start files) (take start files)
    (λ i j d e k n alike.
    let in_drop : start + i < length files = omega (arith, length-drop start files) in
    let in_take : j < start = omega (arith, length-take-le start files (omega (arith, last.inside))) in
    let f : get_or (drop start files) i d ≡ get_or files (start + i) d = get_or-drop start files i d in
    let g : get_or (take start files) j e ≡ get_or files j e = get_or-take start files j e in_take in
    let alike' : content (get tree (get_or files j e).path) ≡ content (get tree (get_or files (start + i) d).path) =
    ap (λ (x : File). content (get tree x.path)) (sym g) ∙ sym alike ∙ ap (λ (x : File). content (get tree x.path)) f in
    false≢true (sym (last.others j (start + i) e in_take (omega arith) in_drop)
    ∙ same_files tree list (get_or files j e) (get_or files (start + i) e) (hashed j e (omega arith)) (hashed (start + i) e in_drop)
    (alike' ∙ ap (λ (x : File). content (get tree x.path)) (get_or_default files (start + i) d e in_drop))))
    l m same

pub sifted_cut : (tree : Option Files) (list : List Entry) (files : List File) (others : List (List File)) (start : ℕ) (found : Grouping) →
    IsLastRun files start →
    AreSifted tree list (files ∷ others) found → AreSifted tree list (drop start files ∷ (take start files ∷ others)) found
sifted_cut tree list files others start found last s =
    let hashed : All (IsHashed tree list) files = All-head (λ pile. All (IsHashed tree list) pile) files others s.hashed in
    let parted : AreParted tree list (misses found) (piles_of found.groups ++ paths_of (drop start files) ∷ (paths_of
    (take start files) ∷ map paths_of others)) =
    parted_divided tree list (misses found) (misses found) (piles_of found.groups) (paths_of files) (paths_of (drop start files)) (paths_of (take start files))
    (map paths_of others) (λ p. ap (λ n. n + misses found p) (cut_times p files start)) (λ p. omega arith) (by tree hashed)
    (record { once = s.once; undivided = s.undivided }) in
    record {
      hashed = All-cons (λ pile. All (IsHashed tree list) pile) (drop start files) (take start files ∷ others) (All-drop
          (IsHashed tree list) start files hashed)
          (All-cons (λ pile. All (IsHashed tree list) pile) (take start files) others (All-take (IsHashed tree list) start files hashed)
          (All-tail (λ pile. All (IsHashed tree list) pile) files others s.hashed));
      missed = s.missed;
      made = s.made;
      once = parted.once;
      undivided = parted.undivided;
    }
  where
    by : (t : Option Files) → All (IsHashed t list) files → IfSome t (λ files'. Differ files' (paths_of (drop start files)) (paths_of (take start files)))
    by None h = tt
    by (Some t) h = cut_differ t list files start h last

-- ---- a run of one file or none is left out

pub sifted_left : (tree : Option Files) (list : List Entry) (run : List File) (others : List (List File)) (found : Grouping) → length run ≤ 1 →
    AreSifted tree list (run ∷ others) found → AreSifted tree list others found
sifted_left tree list run others found short s =
    let parted : AreParted tree list (misses found) (piles_of found.groups ++ map paths_of others) =
    parted_left tree list (misses found) (piles_of found.groups) (paths_of run) (map paths_of others) (omega (arith, length-map run path_of))
    (record { once = s.once; undivided = s.undivided }) in
    record {
      hashed = All-tail (λ pile. All (IsHashed tree list) pile) run others s.hashed;
      missed = s.missed;
      made = s.made;
      once = parted.once;
      undivided = parted.undivided;
    }

-- the reader tells the same tree still
pub sifted_as : (told now : Option Files) (list : List Entry) (whole whole' : List (List File)) (found found' : Grouping) → now ≡ told →
    (AreSifted now list whole found → AreSifted now list whole' found') → AreSifted told list whole found → AreSifted told list whole' found'
sifted_as told now list whole whole' found found' e =
    subst (λ t. (AreSifted now list whole found → AreSifted now list whole' found') → AreSifted t list whole found → AreSifted t list whole' found') e (λ h. h)
