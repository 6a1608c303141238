use Rattle.run_entries.proofs.Prelude.{rules, take, drop, suc, map, subst, sym, arith, take_all, side_of, Output, Saved, SameButOutputs, StopsSaving}
use Rattle.run_entries.proofs.Saved.{rest_saved, rest_stopped, one_more, parted, taken_more}
use Rattle.run_entries.proofs.saving.save_lists.Goals as goal

pub returns-in_err-save_at-clause-rest : goal.returns-in_err-save_at-clause-rest
returns-in_err-save_at-clause-rest g c =
    let tree = g.G.Plot.tree in
    let outputs = c.args.outputs.now in
    let i = c.loop-output.output-index in
    let output = c.output-item.result in
    subst (λ os. SameButOutputs (map (λ (o : Output). o.path) os) (tree c.args.files.now) (tree c.save_at.new.files))
    (sym (parted outputs i output c.loop-output-test.true c.output-item.is))
    (rest_stopped (take i outputs) output (drop (suc i) outputs) (tree c.args.files.now) (tree c.loop-output.files) (tree c.save_at.new.files)
    c.loop-output.invariant.saved (record { tells = c.save_at.ensures.tells; same = c.save_at.ensures.rest }))

pub returns-in_err-save_at-clause-stopped : goal.returns-in_err-save_at-clause-stopped
returns-in_err-save_at-clause-stopped g c =
    let outputs = c.args.outputs.now in
    let i = c.loop-output.output-index in
    let output = c.output-item.result in
    let before = side_of g.G.Plot c.args.files.now in
    let after = side_of g.G.Plot c.save_at.new.files in
    let stops : StopsSaving outputs before after c.in_err-save_at.field-0.0 =
    record {
      earlier = take i outputs;
      first = output;
      later = drop (suc i) outputs;
      are = parted outputs i output c.loop-output-test.true c.output-item.is;
      between = side_of g.G.Plot c.loop-output.files;
      saved = c.loop-output.invariant.saved;
      kept = c.loop-output.invariant.count.kept;
      still = c.save_at.ensures.count.kept;
      stops = c.in_err-save_at.ensures.stopped;
    }
    in search rules

pub loop-output-preserved : goal.loop-output-preserved
loop-output-preserved g c =
    let tree = g.G.Plot.tree in
    let outputs = c.args.outputs.now in
    let i = c.loop-output.output-index in
    let output = c.output-item.result in
    let old = c.loop-output.invariant in
    record {
      saved =
          subst (λ os. Saved os (tree c.args.files.now) (tree c.save_at.new.files)) (sym (taken_more outputs i output c.loop-output-test.true c.output-item.is))
          (one_more (take i outputs) output (tree c.args.files.now) (tree c.loop-output.files)
          (tree c.save_at.new.files) old.saved c.in_ok-save_at.ensures.saved);
      lent = c.save_at.ensures.lent;
      count = record {
        kept = omega (arith, old.count.kept, c.save_at.ensures.count.kept);
        rose = omega (arith, old.count.kept, c.save_at.ensures.count.kept);
      };
    }

pub returns-clause-rest : goal.returns-clause-rest
returns-clause-rest g c =
    let tree = g.G.Plot.tree in
    let outputs = c.args.outputs.now in
    rest_saved outputs (tree c.args.files.now) (tree c.loop-output.files)
    (subst (λ os. Saved os (tree c.args.files.now) (tree c.loop-output.files)) (take_all c.loop-output.output-index outputs c.loop-output-test.false)
    c.loop-output.invariant.saved)
