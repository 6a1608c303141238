-- A buffer is filled piece by piece.
use Rattle.tree_cmp.proofs.Prelude.{◌≡◌, ℕ, zero, suc, refl, ◌+◌, ◌<◌, ◌≤◌, true, List, ◌++◌, length, take, drop, Option, Some, None, IfSome, ap, ◌∙◌, sym}
use Rattle.tree_cmp.proofs.Prelude.{arith, length-append, take-take, drop-drop, length-take-le, take-put_mid, take-append-add, take-add, put_mid, get, Files}
use Rattle.tree_cmp.proofs.Prelude.{Node, Reads, content, is_file, Fills}

front : (done k n : ℕ) (into sub : List ℕ) → done ≤ length into → n ≤ length sub → take (done + n) (put_mid done k into sub) ≡ take done into ++ take n sub
front done k n into sub h g =
    let len : length (take done into) ≡ done = length-take-le done into h in
    sym (take-take (done + n) (done + length sub) (put_mid done k into sub) (omega arith))
    ∙ ap (take (done + n)) (take-put_mid done k into sub (done + length sub) refl h)
    ∙ (λ i. take (sym len i + n) (take done into ++ sub))
    ∙ take-append-add (take done into) sub n

start : (node : Option Node) (at done : ℕ) (into : List ℕ) → done ≤ length into → (0 < done → Fills node at (take done into))
    → take done into ≡ take done (drop at (content node))
start node at zero into h f = refl
start node at (suc done) into h f = let g = f (omega arith) in g.same ∙ ap (λ k. take k (drop at (content node))) (length-take-le (suc done) into h)

more : (node : Option Node) (at done n k : ℕ) (into sub : List ℕ) → done ≤ length into → n ≤ length sub
    → (0 < done → Fills node at (take done into)) → is_file node ≡ true → take n sub ≡ take n (drop (at + done) (content node))
    → at + done + n ≤ length (content node) →
    Fills node at (take (done + n) (put_mid done k into sub))
more node at done n k into sub h g f t s l =
    let b : take (done + n) (put_mid done k into sub) ≡ take done into ++ take n sub = front done k n into sub h g in
    let len : length (take (done + n) (put_mid done k into sub)) ≡ done + n = ap length b
    ∙ omega (arith, length-append (take done into) (take n sub), length-take-le done into h, length-take-le n sub g) in
    let all : take done into ++ take n sub ≡ take (done + n) (drop at (content node)) =
    (λ i. start node at done into h f i ++ (s ∙ ap (take n) (sym (drop-drop done at (content node)))) i) ∙ sym (take-add done n (drop at (content node)))
    in
    record {
      is_file = t;
      inside = omega (arith, len);
      same = b ∙ all ∙ (λ i. take (sym len i) (drop at (content node)));
    }

-- after a piece more was read
pub filled : (told : Option Files) (path : List ℕ) (at done n k : ℕ) (into sub : List ℕ) → done ≤ length into → n ≤ length sub → 0 < n
    → (0 < done → IfSome told (λ files. Fills (get files path) at (take done into)))
    → IfSome told (λ files. Reads files path (at + done) sub n) →
    IfSome told (λ files. Fills (get files path) at (take (done + n) (put_mid done k into sub)))
filled None path at done n k into sub h g z f r = tt
filled (Some files) path at done n k into sub h g z f r = more (get files path) at done n k into sub h g f r.is_file r.same (let i = r.inside in omega arith)
