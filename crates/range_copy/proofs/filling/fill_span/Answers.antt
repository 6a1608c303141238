use Rattle.range_copy.proofs.Prelude.{rules, inl, inr, ◌≤◌, ◌+◌, ap, ◌∙◌, subst, arith, length, drop, IfSome, length-take-le, take-append-le, option_map, Reads}
use Rattle.range_copy.proofs.Prelude.{spliced}
use Rattle.std.proofs.Common.{Err}
use Rattle.range_copy.proofs.Counted.{rose_after}
use Rattle.range_copy.proofs.Fills.{more, as_long}
use Rattle.range_copy.proofs.filling.fill_span.Goals as goal

pub loop-at-preserved : goal.loop-at-preserved
loop-at-preserved g c =
    let count = c.in-Ok.count in
    let at = c.loop-at.at in
    let so = c.loop-at.invariant in
    let most : count ≤ length c.read.new.into = c.in-Ok.ensures.most in
    let room = length-take-le c.piece-most.result c.loop-at.buffer (omega (arith, c.piece-most.ensures.most)) in
    let inside : at + count ≤ c.args.size =
    omega (arith, most, room, c.read.auto.into, c.piece-most.ensures.inside, c.loop-at-test.true) in
    let reads = subst (λ told. IfSome told (λ files. Reads files c.args.source.now (c.args.start + at) c.read.new.into count)) so.same
    c.in-Ok.ensures.told in
    let wrote = c.in-Ok-write.ensures.ok
    ∙ ap (λ bytes. option_map (λ old. spliced old at bytes) (g.S.Span.holds c.loop-at.span))
    (take-append-le count c.read.new.into (drop c.piece-most.result c.loop-at.buffer) most) in
    record {
      inside = inside;
      same = c.read.ensures.same ∙ so.same;
      piece = c.write.ensures.piece ∙ so.piece;
      tells = c.write.ensures.tells ∙ so.tells;
      len = search rules;
      reader_count = omega (arith, so.reader_count, c.read.ensures.count.kept);
      span_count = omega (arith, so.span_count, c.write.ensures.count.kept);
      size = as_long _ _ c.read.new.into at count c.args.size most inside wrote so.size;
      front = more _ _ _ c.args.source.now c.read.new.into c.args.start at count c.args.size most inside reads wrote so.size
          so.front;
      read = inr (record {
        at = c.args.start + at;
        many = count;
        after = c.read.new.self;
        read = record { before = c.loop-at.reader; given = c.in-Ok.ensures.given };
        ends = omega arith;
      });
    }

pub returns-in-Err-Failed-clause-cause : goal.returns-in-Err-Failed-clause-cause
returns-in-Err-Failed-clause-cause g c =
    λ e. inl (rose_after _ _ _ c.loop-at.invariant.reader_count (c.in-Err-Failed.ensures.cause (ap Err c.in-Err-Failed.field-0-is)))

pub returns-in-Err-Failed-write-clause-cause : goal.returns-in-Err-Failed-write-clause-cause
returns-in-Err-Failed-write-clause-cause g c =
    λ e. inr (rose_after _ _ _ c.loop-at.invariant.span_count (c.in-Err-Failed-write.ensures.cause (ap Err c.in-Err-Failed-write.field-0-is)))

pub returns-in-Err-Failed-write-clause-shown : goal.returns-in-Err-Failed-write-clause-shown
returns-in-Err-Failed-write-clause-shown g c =
    let rose = c.in-Err-Failed-write.ensures.cause (ap Err c.in-Err-Failed-write.field-0-is) in
    inr (omega (arith, rose.rose))
