use Rattle.tree_walk.proofs.Prelude.{◌∙◌, ap, arith, capped, Holds, all_join}
use Rattle.tree_walk.proofs.Caused.{more_answered}
use Rattle.tree_walk.proofs.Ranks.{more_logs, more_faults, never_falls}
use Rattle.tree_walk.proofs.walking.opened.Goals as goal

pub loop-job-preserved : goal.loop-job-preserved
loop-job-preserved g c =
    let before = c.loop-job.invariant in
    let opened = c.open-reader.ensures in
    let reader = g.G.Reader.Tree.count in
    let count = g.G.Plot.count in
    record {
      logs = more_logs (λ log. log) c.loop-job.logs.items c.push.new.self.items _ c.loop-job.yielded c.in-Some.job
          c.in_ok-push.ensures.items opened.entries before.logs;
      holds = all_join (λ job. Holds (g.G.Reader.Tree.tree job.0) (reader job.0) job.1) c.loop-job.yielded _ before.holds (opened.holds, tt);
      answered = more_answered g.G.Reader.Tree.gives (λ log. log) c.loop-job.logs.items c.push.new.self.items _ c.in_ok-push.ensures.items
          before.answered opened.answered;
      counted = more_faults c.loop-job.yielded c.in-Some.job (count c.args.ground.now) (count c.loop-job.ground) (count c.take_reader.new.self)
          (reader c.in-Some.job.0) before.counted before.below
          (c.take_reader.ensures.count ∙ ap (λ r. capped (count c.loop-job.ground) (reader r)) opened.reader) opened.holds.faults;
      below = omega (arith, c.take_reader.ensures.count);
      same = c.take_reader.ensures.same ∙ before.same;
      area = c.take_reader.ensures.area ∙ before.area;
    }

pub returns-in_err-push-clause-count : goal.returns-in_err-push-clause-count
returns-in_err-push-clause-count g c = never_falls _ _ _ _ _ c.loop-job.invariant.counted c.loop-job.invariant.below c.take_reader.ensures.count
