use Rattle.outside.proofs.Prelude.{◌∙◌, arith}
use Rattle.outside.proofs.Read.{read_more}
use Rattle.outside.proofs.Told.{read_on}
use Rattle.outside.proofs.loading.fill.Goals as goal

pub loop-at-preserved : goal.loop-at-preserved
loop-at-preserved g c =
    let inside = c.loop-at.invariant in
    let piece = c.in_ok-n.ensures in
    record {
      inside = omega arith;
      loaded = read_more _ _ _ _ _ _ _ inside.same piece.kept inside.loaded piece.told;
      same = piece.same ∙ inside.same;
      count = record { kept = omega arith; rose = omega arith };
      front = read_on _ _ _ _ _ _ _ inside.front piece.given;
    }
