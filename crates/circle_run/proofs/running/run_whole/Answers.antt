use Rattle.circle_run.proofs.Prelude.{List, length, Option, refl, sym, subst, ap, ◌∙◌, arith, length-map, length-map-range_with_len, sum_by, Told, Stays}
use Rattle.circle_run.proofs.Prelude.{NoneOnTheWay, dealt_to, AreNew}
use Rattle.sum_tree.specs.Plain.{fresh as fresh_sums}
use Rattle.circle_run.proofs.Maps.{sum_by-map}
use Rattle.circle_run.proofs.Beginning.{begins}
use Rattle.circle_run.proofs.Rounds.{same_all}
use Rattle.circle_run.proofs.Finishing.{closed, seats_done, sums_done}
use Rattle.circle_run.proofs.Gathering.{all_done, all_finished, first_answers}
use Rattle.circle_run.proofs.running.run_whole.Goals as goal

pub new_ranks-requires-clause-sums : goal.new_ranks-requires-clause-sums
new_ranks-requires-clause-sums g c =
    sym (length-map c.args.sums_seats.items g.Q.Sums.shows) ∙ ap length c.requires.sums_shown ∙ length-map-range_with_len (fresh_sums
    c.args.options.now.ranks c.args.options.now.width) 0 c.args.options.now.ranks ∙ sym c.requires.jobs

pub new_ranks-requires-clause-queues : goal.new_ranks-requires-clause-queues
new_ranks-requires-clause-queues g c = ap length c.in_ok-queues.ensures ∙ length-map-range_with_len (dealt_to c.args.options.now.ranks
    c.args.starts.items) 0 c.args.options.now.ranks ∙ sym c.requires.jobs

pub make-requires : goal.make-requires
make-requires g c = (begins g.J.Job.log g.P.Post.shows g.P.Post.tells g.P.Post.seats g.Q.Sums.shows g.Q.Sums.seats c.args.options.now
    c.args.starts.items c.args.jobs.items c.args.seats.items c.args.sums_seats.items c.in_ok-queues.queues.items c.in_ok-ranks.ranks.items
    c.in_ok-ranks.ranks.items c.args.post.now c.args.sums.now refl c.in_ok-ranks.ensures
    c.requires.jobs c.requires.ranks.1 c.requires.width c.requires.seats c.requires.sums_shown c.requires.sums_seats c.in_ok-queues.ensures).order

pub run_traced-requires : goal.run_traced-requires
run_traced-requires g c =
    let first = begins g.J.Job.log g.P.Post.shows g.P.Post.tells g.P.Post.seats g.Q.Sums.shows g.Q.Sums.seats c.args.options.now c.args.starts.items
    _ _ _ _ _ c.make.result c.args.post.now c.args.sums.now c.make.ensures c.in_ok-ranks.ensures c.requires.jobs c.requires.ranks.1
    c.requires.width c.requires.seats c.requires.sums_shown c.requires.sums_seats c.in_ok-queues.ensures in
    record { order = first.order; ready = first.ready; unwritten = first.unwritten; empty = c.new-events.ensures.items }

pub gather-requires-clause-all : goal.gather-requires-clause-all
gather-requires-clause-all g c =
    let first = begins g.J.Job.log g.P.Post.shows g.P.Post.tells g.P.Post.seats g.Q.Sums.shows g.Q.Sums.seats c.args.options.now c.args.starts.items
    _ _ _ _ _ c.make.result c.args.post.now c.args.sums.now c.make.ensures c.in_ok-ranks.ensures c.requires.jobs c.requires.ranks.1
    c.requires.width c.requires.seats c.requires.sums_shown c.requires.sums_seats c.in_ok-queues.ensures in
    let all = same_all g.J.Job.plain c.args.options.now c.make.result c.in_ok-ranks-2.ranks.items c.in_ok-ranks-2.ensures.same first.all in
    all_done g.P.Post.shows (g.P.Post.seats c.run_traced.new.post) c.in_ok-parts.parts.seats.items
    (seats_done g.J.Job.log g.J.Job.plain g.P.Post.shows g.P.Post.tells g.P.Post.seats g.Q.Sums.shows g.Q.Sums.seats c.args.options.now
    c.in_ok-ranks-2.ranks.items c.run_traced.new.post c.run_traced.new.sums c.in_ok-parts.parts.seats.items all c.in_ok-ranks-2.ensures.ended
    c.in_ok-parts.ensures.seats)

pub gather-requires-2-clause-all : goal.gather-requires-2-clause-all
gather-requires-2-clause-all g c =
    let first = begins g.J.Job.log g.P.Post.shows g.P.Post.tells g.P.Post.seats g.Q.Sums.shows g.Q.Sums.seats c.args.options.now c.args.starts.items
    _ _ _ _ _ c.make.result c.args.post.now c.args.sums.now c.make.ensures c.in_ok-ranks.ensures c.requires.jobs c.requires.ranks.1
    c.requires.width c.requires.seats c.requires.sums_shown c.requires.sums_seats c.in_ok-queues.ensures in
    let all = same_all g.J.Job.plain c.args.options.now c.make.result c.in_ok-ranks-2.ranks.items c.in_ok-ranks-2.ensures.same first.all in
    all_finished g.Q.Sums.shows (g.Q.Sums.seats c.run_traced.new.sums) c.in_ok-parts.parts.sums_seats.items
    (sums_done g.J.Job.log g.J.Job.plain g.P.Post.shows g.P.Post.tells g.P.Post.seats g.Q.Sums.shows g.Q.Sums.seats c.args.options.now
    c.in_ok-ranks-2.ranks.items c.run_traced.new.post c.run_traced.new.sums c.in_ok-parts.parts.sums_seats.items all
    c.in_ok-ranks-2.ensures.ended c.in_ok-parts.ensures.sums_seats)

pub returns : goal.returns
returns g c =
    let o = c.args.options.now in
    let new = subst (AreNew g.J.Job.log c.args.options.now c.args.jobs.items c.args.seats.items c.args.sums_seats.items c.in_ok-queues.queues.items)
    (sym c.make.ensures) c.in_ok-ranks.ensures in
    let first = begins g.J.Job.log g.P.Post.shows g.P.Post.tells g.P.Post.seats g.Q.Sums.shows g.Q.Sums.seats c.args.options.now c.args.starts.items
    _ _ _ _ _ c.make.result c.args.post.now c.args.sums.now c.make.ensures c.in_ok-ranks.ensures c.requires.jobs c.requires.ranks.1
    c.requires.width c.requires.seats c.requires.sums_shown c.requires.sums_seats c.in_ok-queues.ensures in
    let ranks = c.in_ok-ranks-2.ranks.items in
    let parts = c.in_ok-parts.ensures in
    let all = same_all g.J.Job.plain o c.make.result ranks c.in_ok-ranks-2.ensures.same first.all in
    let left =
    closed g.J.Job.log g.J.Job.plain g.P.Post.shows g.P.Post.tells g.P.Post.seats g.Q.Sums.shows g.Q.Sums.seats o c.args.starts.items c.args.jobs.items
    c.make.result ranks c.args.post.now c.run_traced.new.post c.args.sums.now c.run_traced.new.sums c.gather-2.result _
    (record {
      waits = c.nothing_waits_at_end.ensures;
      fair = c.rounds_are_fair.ensures.fair;
      sound = c.deeds_keep_sound.ensures;
      late_sound = c.late_keeps_sound.ensures;
      agrees = g.met.P.Post.agrees;
      some = c.requires.ranks.0;
      first = first;
      unshared = λ k d h. (new.new k d h).share;
      given_jobs = new.jobs_are;
      gathered = c.in_ok-parts.parts.seats.items;
      last = record {
        all = all;
        done = c.in_ok-ranks-2.ensures.ended;
        found = λ k d h. (c.in_ok-ranks-2.ensures.unwritten k d h).0;
        seats_are = parts.seats;
        halters = c.gather.ensures.halters;
      };
      same = c.in_ok-ranks-2.ensures.same;
      mailboxes = λ t e. (subst (λ (x : Option Told). Stays NoneOnTheWay x (g.P.Post.tells c.gather.new.self)) e c.gather.ensures.told).0;
      ran = c.in_ok-ranks-2.ensures.ran o _ first.all c.requires.told;
      jobs_are = parts.jobs;
      left_are = parts.left;
      shares_are = parts.shares;
      sums_are = parts.numbers;
      answer = first_answers g.Q.Sums.shows (g.Q.Sums.seats c.run_traced.new.sums) ranks c.in_ok-parts.parts.sums_seats.items c.gather-2.result
          parts.sums_seats
          (sums_done g.J.Job.log g.J.Job.plain g.P.Post.shows g.P.Post.tells g.P.Post.seats g.Q.Sums.shows g.Q.Sums.seats o ranks
          c.run_traced.new.post c.run_traced.new.sums c.in_ok-parts.parts.sums_seats.items all c.in_ok-ranks-2.ensures.ended parts.sums_seats)
          (let a = all.count in let b = c.requires.ranks.0 in omega arith) c.gather-2.ensures.first;
      total_is = c.gather-2.ensures.sum ∙ ap (λ (xs : List _). sum_by (λ x. (g.Q.Sums.shows x).count) xs) parts.sums_seats
          ∙ sum_by-map (λ x. (g.Q.Sums.shows x).count) (λ r. r.sums_seat) ranks;
    })
    in
    record { outcome = left.0; run = left.1; played = left.2 }
