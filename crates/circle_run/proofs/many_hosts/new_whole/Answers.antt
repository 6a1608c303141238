use Rattle.circle_run.proofs.Prelude.{length, sym, ap, ◌∙◌, length-map-range_with_len, dealt_to}
use Rattle.post_board.specs.BoardSeats.{IsSeat as IsBoardSeat, shown_by as board_shown}
use Rattle.sum_tree.specs.TreeSeats.{IsSeat as IsSumSeat, shown_by as sum_shown}
use Rattle.circle_run.proofs.Whole.{starting}
use Rattle.circle_run.proofs.many_hosts.new_whole.Goals as goal

pub new_ranks-requires-clause-seats : goal.new_ranks-requires-clause-seats
new_ranks-requires-clause-seats g c = c.requires.seats.count ∙ sym c.requires.jobs

pub new_ranks-requires-clause-sums : goal.new_ranks-requires-clause-sums
new_ranks-requires-clause-sums g c = c.requires.sums.count ∙ sym c.requires.jobs

pub new_ranks-requires-clause-queues : goal.new_ranks-requires-clause-queues
new_ranks-requires-clause-queues g c = ap length c.in_ok-queues.ensures
    ∙ length-map-range_with_len (dealt_to c.args.options.now.ranks c.args.starts.items) 0 c.args.options.now.ranks ∙ sym c.requires.jobs

pub returns-clause-starting : goal.returns-clause-starting
returns-clause-starting g c =
    starting g.J.Job.log board_shown IsBoardSeat sum_shown IsSumSeat c.args.options.now c.args.starts.items c.args.jobs.items
    c.args.seats.items c.args.sums_seats.items c.in_ok-queues.queues.items c.in_ok-new_ranks.field-0.items c.args.board.now
    c.args.tree.now
    c.in_ok-new_ranks.ensures c.requires.jobs c.requires.ranks.1 c.requires.width c.requires.seats c.requires.sums.each c.in_ok-queues.ensures

pub returns-clause-jobs : goal.returns-clause-jobs
returns-clause-jobs g c = c.in_ok-new_ranks.ensures.jobs_are
