use Rattle.outside.proofs.Prelude.{◌∙◌, ap, take, drop, arith}
use Rattle.outside.proofs.Saved.{wrote_more}
use Rattle.outside.proofs.Told.{wrote_on}
use Rattle.outside.proofs.saving.write_all.Goals as goal

pub loop-at-preserved : goal.loop-at-preserved
loop-at-preserved g c =
    let write = c.in_ok-write_at.ensures in
    let inside = c.loop-at.invariant in
    record {
      inside = grind arith;
      written = wrote_more _ _ _ _ _ _ _ _ c.min.result (grind arith) (ap (λ n. take n (drop c.loop-at.at c.args.bytes.now)) (omega arith))
          inside.tells inside.written write.told;
      front = wrote_on _ _ _ _ _ c.min.result _ _ _ (ap (λ n. take n (drop c.loop-at.at c.args.bytes.now)) (omega arith)) inside.front write.given;
      tells = write.tells ∙ inside.tells;
      area = write.area ∙ inside.area;
      count = record { kept = omega arith; rose = omega arith };
    }
