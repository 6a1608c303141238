use Rattle.rank_tests.proofs.Prelude.{◌≡◌, ◌<◌, ◌∷◌, ◌++◌, ◌∙◌, ap, [], ℕ, zero, suc, sym, subst, arith, false, List, length, get_or, Placed, Rank}
use Rattle.rank_tests.proofs.of_shared_ranks.run_both.Goals as goal

-- what holds of two holds of each place of the list of them
each_of : {A : Type 0} (P : A → Type 0) (first second : A) → P first → P second → (k : ℕ) (d : A) → k < length (first ∷ second ∷ [])
    → P (get_or (first ∷ second ∷ []) k d)
each_of P first second a b zero d below = a
each_of P first second a b (suc zero) d below = b
each_of P first second a b (suc (suc k)) d below = absurd (omega arith)

pub run-requires-clause-ready : goal.run-requires-clause-ready
run-requires-clause-ready g c =
    let whole : c.make.result ≡ c.args.zero ∷ c.args.one ∷ [] =
    c.make.ensures ∙ c.in_ok-push-2.ensures.items
    ∙ ap (λ xs. xs ++ c.args.one ∷ []) (c.in_ok-push.ensures.items ∙ ap (λ xs. xs ++ c.args.zero ∷ []) c.in_ok-ranks.ensures.items) in
    subst (λ (xs : List (Rank _ _ _)). (k : ℕ) (d : Rank _ _ _) → k < length xs
    → Placed g.J.Job.log g.P.Post.shows g.P.Post.seats g.Q.Sums.shows g.Q.Sums.seats false (get_or xs k d) c.args.post.now c.args.sums.now) (sym whole)
    (each_of (λ r. Placed g.J.Job.log g.P.Post.shows g.P.Post.seats g.Q.Sums.shows g.Q.Sums.seats false r c.args.post.now c.args.sums.now)
    c.args.zero c.args.one c.requires.zero.0 c.requires.one.0)
