use Rattle.rank_tests.proofs.Prelude.{◌≡◌, true, false, ap, ◌∙◌, SumShown, Rank, ready_at_first}
use Rattle.rank_tests.proofs.of_shared_ranks.new_rank.Goals as goal

pub returns-clause-placed : goal.returns-clause-placed
returns-clause-placed g c = record {
  ready = ready_at_first _ _ _ _ _ c.args.job c.args.seat c.args.sums_seat c.args.queue c.args.options.now c.args.me c.make.result
      c.args.post.now c.args.sums.now _ c.make.ensures
      c.requires.unused c.requires.seat.1 c.requires.seat.0 c.requires.sums.1 c.requires.sums.0 c.requires.inside.0 c.requires.inside.1 c.requires.inside.2;
  over = λ e. (let clash : false ≡ true = e in cc);
  going = λ e. ap (λ t. (g.Q.Sums.shows t).answer) (ap (λ (x : Rank _ _ _). x.sums_seat) c.make.ensures.same)
      ∙ ap (λ (x : SumShown). x.answer) c.requires.sums.1;
}
