use Rattle.rank_tests.proofs.Prelude.{◌≡◌, ◌⊎◌, ℕ, inl, true, false, sym, subst, ap, ◌∙◌, [], ◌∷◌, ◌++◌, IsPermutation-append_comm, is_served, AllDone}
use Rattle.rank_tests.proofs.Pairs.{two_by}
use Rattle.rank_tests.proofs.of_post_board.gather_both.Goals as goal

pub gather-requires-clause-all : goal.gather-requires-clause-all
gather-requires-clause-all g c =
    let shows = g.P.Post.shows in
    let seats = g.P.Post.seats c.args.post.now in
    let first : c.push.new.self.items ≡ c.args.one ∷ [] = c.in_ok-push.ensures.items ∙ ap (λ xs. xs ++ c.args.one ∷ []) c.in_ok-all.ensures.items in
    let both : c.push-2.new.self.items ≡ c.args.one ∷ c.args.zero ∷ [] = c.in_ok-push-2.ensures.items ∙ ap (λ xs. xs ++ c.args.zero ∷ []) first in
    let zero = c.requires.zero in
    let one = c.requires.one in
    subst (AllDone shows seats) (sym both)
    (record {
      ranks = c.args.zero ∷ c.args.one ∷ [];
      by_number = two_by
          (λ k s. seats s × ((shows s).number ≡ k) × ((shows s).n ≡ 2) × (((shows s).ended ≡ true) ⊎ ((shows s).stopped ≡ true))
          × ((r : ℕ) → is_served (shows s) r ≡ false))
          c.args.zero c.args.one (zero.0, zero.1, zero.2, inl zero.3, zero.4) (one.0, one.1, one.2, inl one.3, one.4);
      same = IsPermutation-append_comm (c.args.zero ∷ []) (c.args.one ∷ []);
    })
