use Rattle.tree_copy.proofs.Prelude.{rules, ◌+◌, ◌≤◌, ap, inr, subst, ◌∙◌, arith, length, take, drop, IfSome, length-take-le, take-append-le, Reads, WasWritten}
use Rattle.outside.specs.Asked as asked
use Rattle.tree_copy.proofs.Fills.{Wrote, file_more, others_more, holds_more}
use Rattle.tree_copy.proofs.Shown.{written}
use Rattle.tree_copy.proofs.filling.filled.Goals as goal

pub loop-at-preserved : goal.loop-at-preserved
loop-at-preserved g c =
    let count = c.in-Ok.count in
    let at = c.loop-at.at in
    let path = c.args.path.now in
    let most : count ≤ length c.read.new.into = c.in-Ok.ensures.most in
    let before = c.loop-at.invariant.6 in
    let wrote : Wrote path at (take count c.read.new.into) (g.P.Plot.tree c.loop-at.part) (g.P.Plot.tree c.write_at.new.self) =
    subst (λ bytes. Wrote path at bytes (g.P.Plot.tree c.loop-at.part) (g.P.Plot.tree c.write_at.new.self))
    (take-append-le count c.read.new.into (drop c.piece-most.result c.loop-at.buffer) most) c.in-Ok-write_at.ensures.told in
    let reads = subst (λ told. IfSome told (λ seen. Reads seen c.args.source.now at c.read.new.into count)) c.loop-at.invariant.1 c.in-Ok.ensures.told in
    let room = length-take-le c.piece-most.result c.loop-at.buffer (omega (arith, c.piece-most.ensures.most)) in (
      omega (arith, most, room, c.read.auto.into, c.piece-most.ensures.inside, c.loop-at-test.true),
      c.read.ensures.same ∙ c.loop-at.invariant.1,
      c.write_at.ensures.area ∙ c.loop-at.invariant.2,
      search rules,
      search rules,
      search rules,
      record {
        tells = c.write_at.ensures.tells ∙ before.tells;
        others = others_more path _ at _ _ _ before.tells before.others wrote;
        size = file_more path _ at count _ _ (length-take-le count c.read.new.into most) c.write_at.ensures.tells before.size wrote;
        bytes = holds_more c.args.source.now path c.read.new.into at count _ _ _ reads c.write_at.ensures.tells before.bytes wrote;
      },
      inr (
        at,
        take count c.read.new.into,
        ap (λ n. at + n) (length-take-le count c.read.new.into most),
        subst (λ bytes. WasWritten g.P.Plot.gives path (asked.write_at at bytes))
            (take-append-le count c.read.new.into (drop c.piece-most.result c.loop-at.buffer) most)
            (written g.P.Plot.gives path _ _ _ c.in-Ok-write_at.ensures.given),
      ),
    )
