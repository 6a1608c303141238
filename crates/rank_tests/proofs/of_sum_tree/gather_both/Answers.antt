use Rattle.rank_tests.proofs.Prelude.{◌≡◌, sym, subst, ap, ◌∙◌, [], ◌∷◌, ◌++◌, IsSome, IsPermutation-append_comm, AllFinished}
use Rattle.rank_tests.proofs.Pairs.{two_by}
use Rattle.rank_tests.proofs.of_sum_tree.gather_both.Goals as goal

pub gather-requires-clause-all : goal.gather-requires-clause-all
gather-requires-clause-all g c =
    let shows = g.Q.Sums.shows in
    let seats = g.Q.Sums.seats c.args.sums.now in
    let first : c.push.new.self.items ≡ c.args.one ∷ [] = c.in_ok-push.ensures.items ∙ ap (λ xs. xs ++ c.args.one ∷ []) c.in_ok-all.ensures.items in
    let both : c.push-2.new.self.items ≡ c.args.one ∷ c.args.zero ∷ [] = c.in_ok-push-2.ensures.items ∙ ap (λ xs. xs ++ c.args.zero ∷ []) first in
    subst (AllFinished shows seats) (sym both)
    (record {
      ranks = c.args.zero ∷ c.args.one ∷ [];
      by_number = two_by (λ k s. seats s × ((shows s).number ≡ k) × ((shows s).n ≡ 2) × IsSome (shows s).answer) c.args.zero c.args.one
          c.requires.zero c.requires.one;
      same = IsPermutation-append_comm (c.args.zero ∷ []) (c.args.one ∷ []);
    })
