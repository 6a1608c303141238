-- What stands in the tree while it is made.
use Rattle.test_tree.proofs.Prelude.{◌≡◌, ◌≢◌, ℕ, ◌+◌, ◌*◌, ◌/◌, ◌%◌, ◌<◌, ◌≤◌, ◌^◌, zero, suc, true, false, cond, List, [], ◌∷◌, map, Some, None, refl, ap}
use Rattle.test_tree.proofs.Prelude.{◌∙◌, sym, arith, nat_lt, replicate, range_with_len, eq_by_cmp, bytes_decides, get, insert, from_entries, from_entries_push}
use Rattle.test_tree.proofs.Prelude.{get-from_entries, find, false≢true, nat_tests, map-range_with_len_more, path_cmp, parent_of, path_cmp_total, path_cmp_ties}
use Rattle.test_tree.proofs.Prelude.{path_cmp_same, Files, Node, dir, file, is_dir, is_dir_body, empty_dir, put_refusal, empty_files, path_of, node_of}
use Rattle.test_tree.proofs.Prelude.{place_over}
use Rattle.test_tree.specs.Nodes.{test_files}
use Rattle.test_tree.specs.Made.{first_files}
use Rattle.test_tree.proofs.Placed.{parent_of-path, path_tells, never_root, place_over-suc}

abbrev pub entry : ℕ → ℕ → List ℕ × Node
entry n j = (path_of j, node_of n j)

abbrev pub entries : ℕ → ℕ → List (List ℕ × Node)
entries n k = (47 ∷ [], empty_dir) ∷ map (entry n) (range_with_len 0 k)

ties : (q p : List ℕ) → q ≡ p → eq_by_cmp path_cmp q p ≡ true
ties q p e = sym (path_cmp_ties q p) ∙ (bytes_decides q p).1 e

apart : (q p : List ℕ) → q ≢ p → eq_by_cmp path_cmp q p ≡ false
apart q p h =
    elim (eq_by_cmp path_cmp q p) as (λ b. eq_by_cmp path_cmp q p ≡ b → b ≡ false) [
      | true ↦ λ e. absurd (h ((bytes_decides q p).0 (path_cmp_ties q p ∙ e)))
      | false ↦ λ e. refl
    ] refl

find_none : (n a m : ℕ) (q : List ℕ) → ((j : ℕ) → a ≤ j → j < a + m → q ≢ path_of j) → find path_cmp q (map (entry n) (range_with_len a m)) ≡ None
find_none n a zero q off = refl
find_none n a (suc m) q off =
    ap (λ b. cond b (Some (node_of n a)) (find path_cmp q (map (entry n) (range_with_len (a + 1) m)))) (apart q (path_of a) (off a (omega arith) (omega arith)))
    ∙ find_none n (a + 1) m q (λ j l h. off j (omega arith) (omega arith))

find_node : (n a m j : ℕ) → a ≤ j → j < a + m → a + m < 2 ^ 64 → find path_cmp (path_of j) (map (entry n) (range_with_len a m)) ≡ Some (node_of n j)
find_node n a zero j l h s = absurd (omega arith)
find_node n a (suc m) j l h s =
    elim (eq_by_cmp path_cmp (path_of j) (path_of a)) as
    (λ b. eq_by_cmp path_cmp (path_of j) (path_of a) ≡ b
    → cond b (Some (node_of n a)) (find path_cmp (path_of j) (map (entry n) (range_with_len (a + 1) m))) ≡ Some (node_of n j)) [
      | true ↦ λ e. ap (λ k. Some (node_of n k))
          (path_tells a j (omega arith) (omega arith)
          (sym ((bytes_decides (path_of j) (path_of a)).0 (path_cmp_ties (path_of j) (path_of a) ∙ e))))
      | false ↦ λ e. find_node n (a + 1) m j (later e) (omega arith) (omega arith)
    ] refl
  where
    later : eq_by_cmp path_cmp (path_of j) (path_of a) ≡ false → a + 1 ≤ j
    later e = let h : a ≢ j = λ s. false≢true (sym e ∙ ties (path_of j) (path_of a) (ap path_of (sym s))) in omega arith

pub get_first : (n k : ℕ) (q : List ℕ) → get (first_files n k) q ≡ find path_cmp q (entries n k)
unfolding first_files
get_first n k q = get-from_entries path_cmp_total (entries n k) q

pub behind_root : (n k : ℕ) (q : List ℕ) → q ≢ 47 ∷ [] → find path_cmp q (entries n k) ≡ find path_cmp q (map (entry n) (range_with_len 0 k))
behind_root n k q h = ap (λ b. cond b (Some empty_dir) (find path_cmp q (map (entry n) (range_with_len 0 k)))) (apart q (47 ∷ []) h)

-- nothing is at the path of the next node
pub next_none : (n k : ℕ) → k < 2 ^ 64 → find path_cmp (path_of k) (entries n k) ≡ None
next_none n k h =
    behind_root n k (path_of k) (never_root k)
    ∙ find_none n 0 k (path_of k) (λ j l m e. let s = path_tells k j h (omega arith) e in absurd (omega arith))

-- at the path of each node made so far is that node
pub first_at : (n k j : ℕ) → j < k → k < 2 ^ 64 → get (first_files n k) (path_of j) ≡ Some (node_of n j)
first_at n k j h s = get_first n k (path_of j) ∙ behind_root n k (path_of j) (never_root j) ∙ find_node n 0 k j (omega arith) (omega arith) (omega arith)

is_parent : (n j : ℕ) → 8 * j + 1 < n → is_dir (Some (node_of n j)) ≡ true
is_parent n j h = let e : nat_lt (8 * j + 1) n ≡ true = grind (arith, nat_tests) in
    ap (λ b. is_dir_body (cond b (dir 0) (file (replicate (37 * j % 101) (j % 256))))) e

pub root_dir : (n m : ℕ) → is_dir (get (first_files n m) (47 ∷ [])) ≡ true
root_dir n m = ap is_dir
    (get_first n m (47 ∷ [])
    ∙ ap (λ b. cond b (Some empty_dir) (find path_cmp (47 ∷ []) (map (entry n) (range_with_len 0 m)))) (ties (47 ∷ []) (47 ∷ []) refl))

-- where a node stands is a directory, among any number of nodes that has those before it
pub over_dir : (n m k : ℕ) → k < n → k ≤ m → m < 2 ^ 64 → is_dir (get (first_files n m) (place_over k)) ≡ true
over_dir n m zero h l s = root_dir n m
over_dir n m (suc k) h l s =
    ap (λ p. is_dir (get (first_files n m) p)) (place_over-suc k)
    ∙ ap is_dir (first_at n m (k / 8) (omega arith) s)
    ∙ is_parent n (k / 8) (omega arith)

by_parts : (files : Files) (p : List ℕ) → get files p ≡ None → is_dir (get files (parent_of p)) ≡ true → put_refusal files p ≡ None
by_parts files p e d = rw (e, d)

-- so it can be put
pub next_free : (n k : ℕ) (files : Files) (path : List ℕ) → files ≡ first_files n k → path ≡ path_of k → k < n → n < 2 ^ 64 → put_refusal files path ≡ None
next_free n k files path f p h s =
    (λ i. put_refusal (f i) (p i))
    ∙ by_parts (first_files n k) (path_of k) (get_first n k (path_of k) ∙ next_none n k (omega arith))
    (ap (λ q. is_dir (get (first_files n k) q)) (parent_of-path k (omega arith)) ∙ over_dir n k k h (omega arith) (omega arith))

-- the tree with it
pub grown : (n k : ℕ) → k < 2 ^ 64 → first_files n (k + 1) ≡ insert (first_files n k) (path_of k) (node_of n k)
unfolding first_files
grown n k h =
    ap (λ es. from_entries ((47 ∷ [], empty_dir) ∷ es)) (map-range_with_len_more (entry n) 0 k k (omega arith))
    ∙ from_entries_push path_cmp_total path_cmp_same (entries n k) (path_of k) (node_of n k) (next_none n k h)

pub first_none : (n : ℕ) → first_files n 0 ≡ empty_files
unfolding first_files
first_none n = refl

pub first_all : (n : ℕ) → first_files n n ≡ test_files n
unfolding first_files test_files
first_all n = refl

pub node_is_dir : (n k : ℕ) → 8 * k + 1 < n → node_of n k ≡ record { body = dir 0; mtime = None }
node_is_dir n k h = let e : nat_lt (8 * k + 1) n ≡ true = grind (arith, nat_tests) in
    ap (λ b. record { body = cond b (dir 0) (file (replicate (37 * k % 101) (k % 256))); mtime = None }) e

pub node_is_file : (n k : ℕ) → n ≤ 8 * k + 1 → node_of n k ≡ record { body = file (replicate (37 * k % 101) (k % 256)); mtime = None }
node_is_file n k h = let e : nat_lt (8 * k + 1) n ≡ false = grind (arith, nat_tests) in
    ap (λ b. record { body = cond b (dir 0) (file (replicate (37 * k % 101) (k % 256))); mtime = None }) e
