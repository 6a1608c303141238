use Rattle.circle_run.proofs.Prelude.{rules, ◌≡◌, ◌==◌, map, length, refl, sym, subst, ap, ◌∙◌, arith, sum_by, NoneLost, IsHost, one_if, Starting}
use Rattle.post_board.specs.BoardSeats.{IsSeat as IsBoardSeat, shown_by as board_shown}
use Rattle.sum_tree.specs.TreeSeats.{IsSeat as IsSumSeat, shown_by as sum_shown}
use Rattle.circle_run.proofs.Maps.{sum_by-map}
use Rattle.circle_run.proofs.Places.{once_whole}
use Rattle.circle_run.proofs.Final.{ending}
use Rattle.circle_run.proofs.Gathering.{all_done, all_finished, first_answers}
use Rattle.circle_run.proofs.Whole.{whole_host, may_gather, closed}
use Rattle.circle_run.proofs.many_hosts.run_spread.Goals as goal

pub spread-requires-clause-ranks : goal.spread-requires-clause-ranks
spread-requires-clause-ranks g c =
    let e : c.of-whole.result.value.items ≡ c.in_ok-ranks.ranks.items = search rules in
    subst (λ w. IsHost w c.in_ok-ranks.ranks.items) (sym e) (whole_host c.in_ok-ranks.ranks.items c.in_ok-ranks.ensures.starting.place)

pub in_threads-requires-clause-spread : goal.in_threads-requires-clause-spread
in_threads-requires-clause-spread g c κs within =
    let o = c.args.options.now in
    let e : c.of-whole.result.value.items ≡ c.in_ok-ranks.ranks.items = search rules in
    let first = subst (λ x. Starting g.J.Job.log board_shown IsBoardSeat sum_shown IsSumSeat o c.args.starts.items x c.in_ok-board.board
    c.in_ok-tree.tree) (sym e) c.in_ok-ranks.ensures.starting in
    record {
      placed = first.place;
      ready = first.ready;
      flags_are = ap length c.deref.ensures.value ∙ c.in_ok-flags.ensures ∙ c.len.ensures ∙ c.in_ok-mine.others.ok.0;
      count_is = sym first.count;
      mine_is = c.in_ok-mine.ensures.mine;
      others_are = c.in_ok-mine.ensures.others;
      numbers = λ h. c.in_ok-mine.ensures.numbers h ∙ ap (sum_by (λ r. h r.me)) (sym e);
    }

pub in_order-ranks-requires : goal.in_order-ranks-requires
in_order-ranks-requires g c =
    let e : c.of-whole.result.value.items ≡ c.in_ok-ranks.ranks.items = search rules in
    record {
      once = λ v. (let n = c.in_ok-ranks-2.ensures.numbers (λ k. one_if (k == v)) ∙ ap (sum_by (λ r. one_if (r.me == v))) e in
          let p = once_whole c.in_ok-ranks.ranks.items c.in_ok-ranks.ensures.starting.place v in omega arith);
    }

pub gather_all-requires : goal.gather_all-requires
gather_all-requires g c =
    let o = c.args.options.now in
    let b = c.in_ok-board.board in
    let t = c.in_ok-tree.tree in
    let e : c.of-whole.result.value.items ≡ c.in_ok-ranks.ranks.items = search rules in
    let first = subst (λ x. Starting g.J.Job.log board_shown IsBoardSeat sum_shown IsSumSeat o c.args.starts.items x b t)
    (sym e) c.in_ok-ranks.ensures.starting in
    let final = c.in_order-ranks.result.items in
    let joined = c.in_ok-ranks-2.ensures in
    let found : NoneLost final = subst NoneLost c.deref-2.ensures.value (c.if-any_lost.ensures refl) in
    let last = ending g.J.Job.log g.J.Job.plain board_shown IsBoardSeat sum_shown IsSumSeat c.of-whole.result.value.items c.in_ok-ranks-2.ranks.items final b t
    joined.done c.in_order-ranks.ensures.same c.in_order-ranks.ensures.order found joined.numbers in
    let parts = c.in_ok-parts.ensures in
    let may = may_gather g.J.Job.log g.J.Job.plain board_shown IsBoardSeat sum_shown IsSumSeat o c.args.starts.items c.of-whole.result.value.items final b t
    c.in_ok-parts.parts.seats.items c.in_ok-parts.parts.sums_seats.items c.requires.ranks.0 first last parts.seats parts.sums_seats in
    record {
      some = may.0;
      all = all_done board_shown (IsBoardSeat b) c.in_ok-parts.parts.seats.items may.1;
      finished = all_finished sum_shown (IsSumSeat t) c.in_ok-parts.parts.sums_seats.items may.2;
    }

pub returns : goal.returns
returns g c =
    let o = c.args.options.now in
    let b = c.in_ok-board.board in
    let t = c.in_ok-tree.tree in
    let e : c.of-whole.result.value.items ≡ c.in_ok-ranks.ranks.items = search rules in
    let first = subst (λ x. Starting g.J.Job.log board_shown IsBoardSeat sum_shown IsSumSeat o c.args.starts.items x b t)
    (sym e) c.in_ok-ranks.ensures.starting in
    let final = c.in_order-ranks.result.items in
    let joined = c.in_ok-ranks-2.ensures in
    let found : NoneLost final = subst NoneLost c.deref-2.ensures.value (c.if-any_lost.ensures refl) in
    let last = ending g.J.Job.log g.J.Job.plain board_shown IsBoardSeat sum_shown IsSumSeat c.of-whole.result.value.items c.in_ok-ranks-2.ranks.items final b t
    joined.done c.in_order-ranks.ensures.same c.in_order-ranks.ensures.order found joined.numbers in
    let parts = c.in_ok-parts.ensures in
    let some = c.requires.ranks.0 in
    let left = closed g.J.Job.log g.J.Job.plain board_shown IsBoardSeat sum_shown IsSumSeat o c.args.starts.items c.args.jobs.items
    c.of-whole.result.value.items final b t
    (λ s. record { given = s.seat.me.0.own.given; taken = s.seat.me.0.own.taken }) c.in_ok-parts.parts.seats.items c.gather_all.result _
    (record {
      law = c.hosts_are_balanced.ensures;
      keeps = λ s. refl;
      some = some;
      first = first;
      given_jobs = ap (map (λ r. r.job)) e ∙ c.in_ok-ranks.ensures.jobs;
      last = last;
      found = found;
      even = c.gather_all.ensures.even;
      halters = c.gather_all.ensures.halters;
      seats_are = parts.seats;
      jobs_are = parts.jobs;
      left_are = parts.left;
      shares_are = parts.shares;
      sums_are = parts.numbers;
      answer = first_answers sum_shown (IsSumSeat t) final c.in_ok-parts.parts.sums_seats.items c.gather_all.result parts.sums_seats
          (may_gather g.J.Job.log g.J.Job.plain board_shown IsBoardSeat sum_shown IsSumSeat o c.args.starts.items c.of-whole.result.value.items final b t
          c.in_ok-parts.parts.seats.items c.in_ok-parts.parts.sums_seats.items some first last parts.seats parts.sums_seats).2
          (let m = last.count ∙ first.count in omega (arith, m, some)) c.gather_all.ensures.first;
      total_is = c.gather_all.ensures.sum ∙ ap (λ xs. sum_by (λ x. (sum_shown x).count) xs) parts.sums_seats
          ∙ sum_by-map (λ x. (sum_shown x).count) (λ r. r.sums_seat) final;
    })
    in
    record { outcome = left.0 (search rules); apart = left.1 }
