use Rattle.circle_run.proofs.Prelude.{◌≡◌, ℕ, suc, ◌∷◌, ◌++◌, [], map, length, length-append, append-nil, sym, subst, ap, ◌∙◌, arith, All, length-map}
use Rattle.circle_run.proofs.Prelude.{length_push, nil_from_length, into_iter_items, IsNew}
use Rattle.circle_run.proofs.Maps.{push_each, rest_more}
use Rattle.circle_run.proofs.New.{new_own}
use Rattle.circle_run.proofs.parts.new_ranks.Goals as goal

pub overflow_add-me : goal.overflow_add-me
overflow_add-me g c =
    let i = c.loop-job.invariant in
    let whole = ap length i.jobs in
    let parts = length-append (map (λ r. r.job) c.loop-job.ranks.items) (into_iter_items c.loop-job.job-iterator) in
    let some = length-map c.loop-job.ranks.items (λ r. r.job) in
    let me = i.me in
    let few = c.requires.few in
    omega arith

pub loop-job-preserved : goal.loop-job-preserved
loop-job-preserved g c =
    let i = c.loop-job.invariant in
    let r = c.make.result in
    let is = c.make.ensures.same in
    let new = c.in_ok-push.ensures.items in
    let job = c.in-Some.ensures.steps in
    let fresh : All (λ job. g.J.Job.log job ≡ []) (c.in-Some.job ∷ into_iter_items c.next.new.self) = subst (All (λ job. g.J.Job.log job ≡ [])) job.0 i.fresh in
    record {
      jobs = rest_more (λ r. r.job) c.args.jobs.items c.loop-job.ranks.items c.push.new.self.items r c.in-Some.job
          (into_iter_items c.loop-job.job-iterator) (into_iter_items c.next.new.self) job.0 (ap (λ r. r.job) is) new i.jobs;
      seats = rest_more (λ r. r.seat) c.args.seats.items c.loop-job.ranks.items c.push.new.self.items r c.in-Some-next.seat
          (into_iter_items c.loop-job.seats_left) (into_iter_items c.next-in-loop-job.new.self) c.in-Some-next.ensures.cases.0
          (ap (λ r. r.seat) is) new i.seats;
      sums = rest_more (λ r. r.sums_seat) c.args.sums_seats.items c.loop-job.ranks.items c.push.new.self.items r c.in-Some-next-2.sums_seat
          (into_iter_items c.loop-job.sums_left) (into_iter_items c.next-in-loop-job-2.new.self) c.in-Some-next-2.ensures.cases.0
          (ap (λ r. r.sums_seat) is) new i.sums;
      queues = rest_more (λ r. r.queue) c.args.queues.items c.loop-job.ranks.items c.push.new.self.items r c.in-Some-next-3.queue
          (into_iter_items c.loop-job.queues_left) (into_iter_items c.next-in-loop-job-3.new.self) c.in-Some-next-3.ensures.cases.0
          (ap (λ r. r.queue) is) new i.queues;
      seats_left = (let a = i.seats_left in let b = c.in-Some-next.ensures.cases.1 in let d = job.1 in omega arith);
      sums_left = (let a = i.sums_left in let b = c.in-Some-next-2.ensures.cases.1 in let d = job.1 in omega arith);
      queues_left = (let a = i.queues_left in let b = c.in-Some-next-3.ensures.cases.1 in let d = job.1 in omega arith);
      fresh = λ k d h. fresh (suc k) d (omega arith);
      me = (let a = i.me in let l = ap length new in let p = length_push c.loop-job.ranks.items r in omega arith);
      new = push_each (λ (k : ℕ) (x : _). IsNew x.job x.seat x.sums_seat x.queue c.args.options.now k x) c.loop-job.ranks.items
          c.push.new.self.items r new i.new
          (new_own c.in-Some.job c.in-Some-next.seat c.in-Some-next-2.sums_seat c.in-Some-next-3.queue c.args.options.now c.loop-job.me
          (length c.loop-job.ranks.items) r i.me c.make.ensures);
      unused = push_each (λ (k : ℕ) (x : _). g.J.Job.log x.job ≡ []) c.loop-job.ranks.items c.push.new.self.items r new i.unused
          (ap (λ r. g.J.Job.log r.job) is ∙ fresh 0 c.in-Some.job (omega arith));
    }

pub returns : goal.returns
returns g c =
    let i = c.loop-job.invariant in
    let none = c.in-None.ensures.steps.0 in
    record {
      jobs_are = sym (i.jobs ∙ ap (λ xs. map (λ r. r.job) c.loop-job.ranks.items ++ xs)
          (nil_from_length (into_iter_items c.loop-job.job-iterator) (let ok = c.loop-job.job-iterator.rest.ok.0 in omega arith))
          ∙ append-nil (map (λ r. r.job) c.loop-job.ranks.items));
      seats_are = sym (i.seats
          ∙ ap (λ xs. map (λ r. r.seat) c.loop-job.ranks.items ++ xs)
          (nil_from_length (into_iter_items c.loop-job.seats_left) (let ok = c.loop-job.seats_left.rest.ok.0 in let l = i.seats_left in
          omega arith)) ∙ append-nil (map (λ r. r.seat) c.loop-job.ranks.items));
      sums_are = sym (i.sums ∙ ap (λ xs. map (λ r. r.sums_seat) c.loop-job.ranks.items ++ xs)
          (nil_from_length (into_iter_items c.loop-job.sums_left) (let ok = c.loop-job.sums_left.rest.ok.0 in let l = i.sums_left in
          omega arith)) ∙ append-nil (map (λ r. r.sums_seat) c.loop-job.ranks.items));
      queues_are = sym (i.queues
          ∙ ap (λ xs. map (λ r. r.queue) c.loop-job.ranks.items ++ xs)
          (nil_from_length (into_iter_items c.loop-job.queues_left) (let ok = c.loop-job.queues_left.rest.ok.0 in let l = i.queues_left in
          omega arith)) ∙ append-nil (map (λ r. r.queue) c.loop-job.ranks.items));
      new = i.new;
      unused = i.unused;
    }
