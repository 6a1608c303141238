use Rattle.shared_reads.proofs.Prelude.{arith, ◌≡◌, ◌++◌, length, map, subst, sym, ap, ◌∙◌, List, reverse, NoneFell, Worker}
use Rattle.shared_reads.proofs.Hired.{written}
use Rattle.shared_reads.proofs.Workers.{NoneFell-same, readers_of, lists_of, same_trees, none_fell, counted, holds}
use Rattle.shared_reads.proofs.reading.read_all.Goals as goal

pub returns-in_err-desks-clause-none_fell : goal.returns-in_err-desks-clause-none_fell
returns-in_err-desks-clause-none_fell g c = NoneFell-same (map g.R.Tree.count c.args.readers.now.items)

pub returns-in_err-with_capacity-clause-none_fell : goal.returns-in_err-with_capacity-clause-none_fell
returns-in_err-with_capacity-clause-none_fell g c = NoneFell-same (map g.R.Tree.count c.args.readers.now.items)

pub returns-in_err-workers-clause-none_fell : goal.returns-in_err-workers-clause-none_fell
returns-in_err-workers-clause-none_fell g c =
    subst (λ rs. NoneFell (map g.R.Tree.count c.args.readers.now.items) (map g.R.Tree.count rs)) (sym c.in_err-workers.ensures.err)
    (NoneFell-same (map g.R.Tree.count c.args.readers.now.items))

pub returns : goal.returns
returns g c =
    let left = c.hired.new.readers.items in
    let slice : List (Worker g.row.R.Denot g.row.O.Denot) = c.deref_mut.result.now in
    let new : List (Worker g.row.R.Denot g.row.O.Denot) = c.work_all.new.workers in
    let lent : left ++ reverse (readers_of slice) ≡ c.args.readers.now.items =
    ap (λ (ws : List (Worker g.row.R.Denot g.row.O.Denot)). left ++ reverse (readers_of ws)) c.deref_mut.ensures.value
    ∙ c.in_ok-workers.ensures.readers in
    let whole = written c.in_ok-workers.workers.len new c.in_ok-workers.workers.items
    (omega (arith, c.work_all.auto.workers, c.deref_mut.ensures.len))
    (omega (arith, ap length c.deref_mut.ensures.value, c.deref_mut.ensures.len)) in
    let back : c.dismissed.new.readers.items ≡ left ++ reverse (readers_of new) =
    c.dismissed.ensures.readers ∙ ap (λ (ws : List (Worker g.row.R.Denot g.row.O.Denot)). left ++ reverse (readers_of ws)) whole in
    let kept : c.dismissed.new.kept.lists.items ≡ reverse (lists_of new) =
    c.dismissed.ensures.kept ∙ (λ i. c.in_ok-with_capacity.ensures.items i ++ reverse (lists_of (whole i)))
    in
    record {
      told = holds g.R.Tree.tree g.R.Tree.count (g.J.Job.told c.args.job.now) g.J.Job.faults left c.args.readers.now.items c.dismissed.new.readers.items
          slice new lent back c.work_all.auto.workers c.work_all.ensures c.dismissed.new.kept.lists.items kept;
      counted = counted g.R.Tree.tree g.R.Tree.count (g.J.Job.told c.args.job.now) g.J.Job.faults left c.args.readers.now.items c.dismissed.new.readers.items
          slice new lent back c.work_all.auto.workers c.work_all.ensures c.dismissed.new.kept.lists.items kept;
      none_fell = none_fell g.R.Tree.tree g.R.Tree.count (g.J.Job.told c.args.job.now) g.J.Job.faults left c.args.readers.now.items
          c.dismissed.new.readers.items slice new lent back c.work_all.auto.workers c.work_all.ensures;
      same = same_trees g.R.Tree.tree g.R.Tree.count (g.J.Job.told c.args.job.now) g.J.Job.faults left c.args.readers.now.items
          c.dismissed.new.readers.items slice new lent back c.work_all.auto.workers c.work_all.ensures;
    }
