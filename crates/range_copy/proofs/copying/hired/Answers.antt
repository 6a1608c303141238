use Rattle.range_copy.proofs.Prelude.{arith, ap, sym, subst, ◌∙◌, ◌∷◌, [], ◌≡◌, None, length, length-append, IsFresh, AllSee, AreFresh, AreIdle, IsFreshBy}
use Rattle.range_copy.proofs.Prelude.{AreFreshBy}
use Rattle.range_copy.proofs.Loaded.{all_push}
use Rattle.range_copy.proofs.copying.hired.Goals as goal

pub loop-alloc-preserved : goal.loop-alloc-preserved
loop-alloc-preserved g c =
    let i = c.loop-alloc.invariant in
    let items = c.loop-alloc.fillers.items in
    let one = c.in_ok-make.field-0 in
    let seen = g.G.Plot.tree c.args.ground.now in
    record {
      inside = omega (arith, c.loop-alloc-test.true, ap length c.in_ok-push.ensures.items, length-append items (one ∷ []), c.loop-alloc.fillers.ok.0);
      see = subst (AllSee g.G.Reader.Tree.tree seen) (sym c.in_ok-push.ensures.items)
          (all_push (λ f. g.G.Reader.Tree.tree f.reader ≡ seen) items one i.see
          (c.in_ok-make.ensures.same ∙ c.in_ok-reader.ensures.told ∙ i.same));
      fresh = subst (AreFresh g.G.Reader.Tree.count) (sym c.in_ok-push.ensures.items)
          (all_push (IsFresh g.G.Reader.Tree.count) items one i.fresh c.in_ok-make.ensures.fresh);
      shown = subst (AreFreshBy g.G.Reader.Tree.gives c.args.source.now) (sym c.in_ok-push.ensures.items)
          (all_push (λ f. IsFreshBy g.G.Reader.Tree.gives c.args.source.now f.filled) items one i.shown c.in_ok-make.ensures.shown);
      idle = subst AreIdle (sym c.in_ok-push.ensures.items) (all_push (λ f. f.load ≡ None) items one i.idle c.in_ok-make.ensures.idle);
      same = c.in_ok-reader.ensures.same ∙ i.same;
      area = c.in_ok-reader.ensures.area ∙ i.area;
      count = c.in_ok-reader.ensures.count ∙ i.count;
    }
