-- The laws of the made-up tree.
use Rattle.test_tree.proofs.Prelude.{◌≡◌, ◌≢◌, ◌⊎◌, inl, inr, ⊎_elim, ℕ, ◌+◌, ◌*◌, ◌%◌, ◌<◌, ◌≤◌, ◌^◌, zero, suc, Bool, true, false, cond, ◌&&◌, ◌||◌, List, []}
use Rattle.test_tree.proofs.Prelude.{◌∷◌, map, Some, None, refl, ap, ◌∙◌, sym, subst, arith, zero-add, add-one, nat_lt, replicate, is_some, is_none}
use Rattle.test_tree.proofs.Prelude.{range_with_len, eq_by_cmp, bytes_decides, get, len, insert, empty, get-empty, len-empty, len-insert, find, false≢true}
use Rattle.test_tree.proofs.Prelude.{and_from, or_right, decimal_digit, path_cmp, joined, refusal, parent_of, path_cmp_total, Files, Node, dir, file, is_dir}
use Rattle.test_tree.proofs.Prelude.{is_root, far_of, far_at, empty_dir, path_of, node_of, test_files, first_files, FirstNodeIsThere, TestFilesAreTree}
use Rattle.test_tree.proofs.Prelude.{NoChildIsFar, NodesAreCounted, same_path}
use Rattle.outside.specs.Tree.{IsTree}
use Rattle.test_tree.proofs.Placed.{path_of-zero, parent_of-path}
use Rattle.test_tree.proofs.Valid.{path_valid}
use Rattle.test_tree.proofs.Filled.{entry, get_first, behind_root, first_at, first_all, first_none, next_none, over_dir, root_dir, grown}

-- what is at a path

get_made : (n : ℕ) (q : List ℕ) → get (test_files n) q ≡ get (first_files n n) q
get_made n q = ap (λ files. get files q) (sym (first_all n))

node_at : (n k : ℕ) → k < n → n < 2 ^ 64 → get (test_files n) (path_of k) ≡ Some (node_of n k)
node_at n k h s = get_made n (path_of k) ∙ first_at n n k h s

pub first_node_is_there : FirstNodeIsThere
first_node_is_there = record {
  path = path_of-zero ∙ ap (λ digits. joined (47 ∷ []) (110 ∷ digits)) (decimal_digit 0 (omega arith));
  there = λ n l h. ap is_some (node_at n 0 (omega arith) (omega arith));
}

-- none is far

near : (b : Bool) (bytes : List ℕ) → far_of (cond b (dir 0) (file bytes)) ≡ 0
near true bytes = refl
near false bytes = refl

near_nodes : (n a m : ℕ) (q : List ℕ) → far_at (find path_cmp q (map (entry n) (range_with_len a m))) ≡ 0
near_nodes n a zero q = refl
near_nodes n a (suc m) q =
    elim (eq_by_cmp path_cmp q (path_of a)) as (λ b. far_at (cond b (Some (node_of n a)) (find path_cmp q (map (entry n) (range_with_len (a + 1) m)))) ≡ 0) [
      | true ↦ near (nat_lt (8 * a + 1) n) (replicate (37 * a % 101) (a % 256))
      | false ↦ near_nodes n (a + 1) m q
    ]

pub no_child_is_far : NoChildIsFar
no_child_is_far n l h q =
    ap far_at (get_made n q ∙ get_first n n q)
    ∙ elim (eq_by_cmp path_cmp q (47 ∷ [])) as
    (λ b. far_at (cond b (Some empty_dir) (find path_cmp q (map (entry n) (range_with_len 0 n)))) ≡ 0) [
      | true ↦ refl
      | false ↦ near_nodes n 0 n q
    ]

-- how many there are

one_more : (files : Files) (q : List ℕ) (node : Node) (k : ℕ) → get files q ≡ None → len files ≡ k → len (insert files q node) ≡ k + 1
one_more files q node k none e = len-insert path_cmp_total files q node ∙ (λ i. cond (is_some (none i)) (e i) (e i + 1))

counted : (n k : ℕ) → k < 2 ^ 64 → len (first_files n k) ≡ k + 1
counted n zero h = ap len (first_none n) ∙ one_more empty (47 ∷ []) empty_dir 0 (get-empty path_cmp (47 ∷ [])) (len-empty path_cmp Node)
counted n (suc k) h =
    ap (λ m. len (first_files n m)) (sym (add-one k)) ∙ ap len (grown n k (omega arith))
    ∙ one_more (first_files n k) (path_of k) (node_of n k) (k + 1) (get_first n k (path_of k) ∙ next_none n k (omega arith))
    (counted n k (omega arith)) ∙ ap (λ m. m + 1) (add-one k)

pub nodes_are_counted : NodesAreCounted
nodes_are_counted n l h = ap len (sym (first_all n)) ∙ counted n n (omega arith)

-- they are a tree

-- a path that is that of a node
record IsNode (n : ℕ) (q : List ℕ) : Type 0 where
  number : ℕ
  below : number < n
  is : q ≡ path_of number

among : (n a m : ℕ) (q : List ℕ) → (find path_cmp q (map (entry n) (range_with_len a m)) ≡ None) ⊎ IsNode (a + m) q
among n a zero q = inl refl
among n a (suc m) q =
    elim (eq_by_cmp path_cmp q (path_of a)) as
    (λ b. eq_by_cmp path_cmp q (path_of a) ≡ b
    → (cond b (Some (node_of n a)) (find path_cmp q (map (entry n) (range_with_len (a + 1) m))) ≡ None) ⊎ IsNode (a + suc m) q) [
      | true ↦ λ e. inr (record { number = a; below = omega arith; is = same_path q (path_of a) e })
      | false ↦ λ e. ⊎_elim (λ none. inl none) (λ node. inr (further node)) (among n (a + 1) m q)
    ] refl
  where
    further : IsNode (a + 1 + m) q → IsNode (a + suc m) q
    further node = let h = node.below in record { number = node.number; below = omega arith; is = node.is }

no_root : (q : List ℕ) → is_root q ≡ false → q ≢ 47 ∷ []
no_root q off e = false≢true (sym off ∙ (bytes_decides q (47 ∷ [])).1 e)

placed : (n : ℕ) (q : List ℕ) → n ≤ 1000000 → IsNode n q → (is_none (refusal q) && is_dir (get (test_files n) (parent_of q))) ≡ true
placed n q h node =
    let below = node.below in
    and_from (is_none (refusal q)) (is_dir (get (test_files n) (parent_of q)))
    (ap (λ p. is_none (refusal p)) node.is ∙ ap is_none (path_valid node.number (omega arith)))
    (ap (λ p. is_dir (get (test_files n) (parent_of p))) node.is ∙ ap (λ p. is_dir (get (test_files n) p)) (parent_of-path node.number (omega arith))
    ∙ ap is_dir (get_made n _) ∙ over_dir n n node.number below (omega arith) (omega arith))

pub test_files_are_tree : TestFilesAreTree
unfolding IsTree
test_files_are_tree n l h q =
    elim (is_root q) as (λ b. is_root q ≡ b
    → cond b (is_dir (get (test_files n) q))
    (is_none (get (test_files n) q) || (is_none (refusal q) && is_dir (get (test_files n) (parent_of q)))) ≡ true) [
      | true ↦ λ e. ap (λ p. is_dir (get (test_files n) p)) ((bytes_decides q (47 ∷ [])).0 e) ∙ ap is_dir (get_made n (47 ∷ [])) ∙ root_dir n n
      | false ↦ λ e. ⊎_elim
          (λ none. ap (λ o. is_none o || (is_none (refusal q) && is_dir (get (test_files n) (parent_of q))))
          (get_made n q ∙ get_first n n q ∙ behind_root n n q (no_root q e) ∙ none))
          (λ node. or_right (is_none (get (test_files n) q)) _ (placed n q h (subst (λ m. IsNode m q) (zero-add n) node)))
          (among n 0 n q)
    ] refl
