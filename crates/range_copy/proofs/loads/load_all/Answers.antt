use Rattle.range_copy.proofs.Prelude.{◌≡◌, ◌+◌, slice_get, arith, ◌∷◌, ◌++◌, [], ap, sym, subst, ◌∙◌, length, AreLoads, IsLoad, spans_left, end_of}
use Rattle.range_copy.proofs.Loaded.{all_push, is_load, left_push}
use Rattle.range_copy.proofs.loads.load_all.Goals as goal

pub loop-span-preserved : goal.loop-span-preserved
loop-span-preserved g c =
    let i = c.loop-span.invariant in
    let front = c.pop.new.self.items in
    let load = c.load_at-load.result in
    let at : c.len.result ≡ length front = omega (arith, c.len.ensures, c.pop.new.self.ok.0) in
    let here : front ++ load.span ∷ [] ≡ c.loop-span.spans.items =
    ap (λ s. front ++ s ∷ []) c.load_at-load.ensures.span ∙ sym c.in-Some.ensures.items in
    let whole : (front ++ load.span ∷ []) ++ spans_left c.loop-span.loads.items ≡ c.args.spans.items =
    ap (λ r. r ++ spans_left c.loop-span.loads.items) here ∙ i.spans in
    record {
      spans = ap (λ r. front ++ spans_left r) c.in-Ok.ensures.items ∙ left_push front c.loop-span.loads.items load ∙ whole;
      loads = λ path are.
          let one = is_load g.S.Span.piece c.args.cuts.now path c.args.spans.items front c.loop-span.loads.items load c.requires.cuts
          (ap (slice_get c.args.cuts.now) (sym at) ∙ c.load_at-load.ensures.start)
          (ap (λ k. slice_get c.args.cuts.now (k + 1)) (sym at) ∙ c.load_at-load.ensures.end) whole are in
          subst (AreLoads g.S.Span.piece (end_of c.args.cuts.now)) (sym c.in-Ok.ensures.items)
          (all_push (IsLoad g.S.Span.piece (end_of c.args.cuts.now)) c.loop-span.loads.items load (i.loads path are) one);
      room = omega (arith, c.in-Ok.ensures.len, c.in-Ok.ensures.capacity, c.in-Some.ensures.cases, i.room);
    }
