use Rattle.sum_tree.proofs.Prelude.{ℕ, ◌∙◌, refl, ap, arith, length, false, length-replicate, Known}
use Rattle.sum_tree.proofs.sum_trees.SumSeat.fresh.Goals as goal

pub returns-clause-seat : goal.returns-clause-seat
returns-clause-seat c =
    let own = c.requires.view.1 in
    let n : ℕ = c.args.tree.now.n in
    record {
      mine = record {
        table = c.requires.table;
        number = ap (λ (v : Known). v.number) own;
        sized = ap (λ (v : Known). v.n) own;
        wide = ap (λ (v : Known). v.width) own;
        inside = c.requires.inside;
        live = c.requires.view.2;
      };
      n = refl;
      width = refl;
      alone = (c.requires.view.3, c.requires.view.0);
      long = ap (λ (v : Known). length v.seen) own ∙ length-replicate n 0;
      wide = ap (λ (v : Known). length v.finals) own ∙ length-replicate n false;
      capped = omega arith;
      final = ap (λ (v : Known). v.is_final) own;
      stored = (let a = ap (λ (v : Known). v.count) own in omega arith);
      all_stored = λ e. ap (λ (v : Known). v.count) own;
      answered = λ x e. cc;
      low = (let a = ap (λ (v : Known). v.word) own in omega arith);
    }
