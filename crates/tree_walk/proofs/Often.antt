-- What was handled, and the walks of what is left, are the walks of the starts, as often.
use Rattle.tree_walk.proofs.Prelude.{◌≡◌, ℕ, ◌+◌, List, [], ◌∷◌, refl, ap, ◌∙◌, sym, arith, AllByRecursion, sum_by, flat_map, get, sum_by-cons, Files, Entry}
use Rattle.tree_walk.proofs.Prelude.{handled, pushed, Balanced, Answers, answer_in, entry_of, children_of, walk, Held, IsDone, log_of, sum_by-flat_map}
use Rattle.tree_walk.proofs.Recursive.{walk_is}

-- the walk of a path weighs what its entry and the walks of its children weigh
weighs : (files : Files) (a : Answers) (k : Entry → ℕ) (d : Held) → IsDone files d → a d.0.path ≡ answer_in d.0 →
    sum_by k (walk files a d.0.path) ≡ k d.0 + sum_by (λ p. sum_by k (walk files a p)) d.1
weighs files a k d h e =
    let w = walk files a in
    let p = d.0.path in
    ap (sum_by k) (walk_is files a p h.valid h.short)
    ∙ sum_by-cons k (entry_of (a p) (get files p) p) (flat_map w (children_of (a p) files p))
    ∙ (λ i. k (entry_of (e i) (get files p) p) + sum_by-flat_map k w (children_of (e i) files p) i)
    ∙ (λ i. k (sym h.entry i) + sum_by (λ q. sum_by k (w q)) (sym h.children i))

all_weigh : (files : Files) (a : Answers) (k : Entry → ℕ) (ds : List Held) → AllByRecursion (IsDone files) ds →
    AllByRecursion (λ d. a d.0.path ≡ answer_in d.0) ds →
    handled (λ p. sum_by k (walk files a p)) (log_of ds) ≡ sum_by (λ d. k d.0) ds + pushed (λ p. sum_by k (walk files a p)) (log_of ds)
all_weigh files a k [] h t = refl
all_weigh files a k (d ∷ ds) h t =
    let w = λ (p : List ℕ). sum_by k (walk files a p) in
    omega (
      arith,
      weighs files a k d h.0 t.0,
      all_weigh files a k ds h.1 t.1,
      sum_by-cons (λ (d : Held). k d.0) d ds,
      sum_by-cons (λ (y : List ℕ × List (List ℕ)). w y.0) (d.0.path, d.1) (log_of ds),
      sum_by-cons (λ (y : List ℕ × List (List ℕ)). sum_by w y.1) (d.0.path, d.1) (log_of ds),
    )

-- the walk, by any order of handling
pub often : (files : Files) (a : Answers) (k : Entry → ℕ) (ds : List Held) (left starts : List (List ℕ)) →
    AllByRecursion (IsDone files) ds → AllByRecursion (λ d. a d.0.path ≡ answer_in d.0) ds → Balanced (log_of ds) left starts →
    sum_by (λ d. k d.0) ds + sum_by k (flat_map (walk files a) left) ≡ sum_by k (flat_map (walk files a) starts)
often files a k ds left starts h t b =
    omega (
      arith,
      b.weighs (λ p. sum_by k (walk files a p)),
      all_weigh files a k ds h t,
      sum_by-flat_map k (walk files a) left,
      sum_by-flat_map k (walk files a) starts,
    )
