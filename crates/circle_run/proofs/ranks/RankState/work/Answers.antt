use Rattle.circle_run.proofs.Prelude.{◌≡◌, ℕ, ◌+◌, ap, sym, ◌∙◌, subst, length, Bool, true, false, refl, Some, Options, Came, Halts, halts_by, Waits, MayHandle}
use Rattle.circle_run.proofs.Prelude.{is_due, Works, Did}
use Rattle.circle_run.proofs.Stepped.{waited_alone, handled_still, handled_before, stopped_before}
use Rattle.circle_run.proofs.Choosing.{came_on, came_worked, came_wound}
use Rattle.circle_run.proofs.Hearing.{halts_is, first_is, due_first, goes_neither, halt_unless_first, not_halted_ring}
use Rattle.circle_run.proofs.Choosing.{halts_handled, halts_due}
use Rattle.circle_run.proofs.Bounding.{bounded, may_handle, has_all, has_all_after, not_halted}
use Rattle.circle_run.proofs.Asked.{true_not_false}
use Rattle.circle_run.proofs.ranks.RankState.work.Goals as goal

pub returns : goal.returns
returns g c =
    let same = c.in_all.ensures in
    let r = c.args.self.now in
    let heard = c.hear-ring.ensures in
    let served = c.serve-some.ensures in
    let went = c.go_on-did.ensures in
    let told = c.tell_halt.ensures in
    let before = c.go_on-did.new.self in
    let last = c.tell_halt.new.self in
    let board = c.tell_halt.new.post in
    let some = c.serve-some.result in
    let did = c.go_on-did.result in
    let all = c.has_done_all-all.result in
    let job : last.job ≡ before.job = ap (λ (x : _). x.job) told.same in
    let log : g.J.Job.log c.serve-some.new.self.job ≡ g.J.Job.log r.job = ap g.J.Job.log (served.job ∙ heard.job) in
    let early = (goes_neither c.has_done_all-due.result c.is_to_halt-halts.result c.hear-ring.result c.is_to_halt-halts.ensures c.if-halts.false).0 in
    let came = subst (λ (d : Did). Came g.J.Job.log g.J.Job.plain g.P.Post.shows g.P.Post.tells g.P.Post.seats
    (Works g.J.Job.heard g.P.Post.shows g.P.Post.tells d r c.args.post.now last) r c.args.post.now last board) (sym same)
    (came_worked g.J.Job.log g.J.Job.heard g.J.Job.plain g.P.Post.shows g.P.Post.tells g.P.Post.seats c.hear-ring.result some did all
    (record {
      r = r;
      p = c.args.post.now;
      r1 = c.hear-ring.new.self;
      p1 = c.hear-ring.new.post;
      r2 = c.serve-some.new.self;
      p2 = c.serve-some.new.post;
      queue = c.settle.new.queue;
      r3 = before;
      p3 = c.go_on-did.new.post;
      r4 = last;
      p4 = board;
    })
    (record {
      more = c.in_default.not-Over;
      goes_on = halts_is c.hear-ring.result r c.has_done_all-due.result c.is_to_halt-halts.result false c.has_done_all-due.ensures.done
          c.is_to_halt-halts.ensures c.if-halts.false;
      read = heard.read;
      queue_is = ap (λ (x : _). x.queue) heard.same;
      asked = served.asked ∙ ap (λ (x : _). x.asked) heard.same;
      tried = served.tried ∙ ap (λ (x : _). x.tried) heard.same;
      lost = c.settle.ensures.lost;
      kept = c.settle.ensures.kept;
      job = served.job ∙ heard.job;
      due_is = c.has_done_all-all.ensures.done ∙ ap (λ (x : _). is_due x.options.stop_after x.book.share.handled) (sym told.same);
      held = told.here ∙ went.held;
      heard_is = λ found. ap g.J.Job.heard job ∙ went.heard (ap (λ (x : _). x.book.lost) (sym told.same) ∙ found);
    }) heard.came served.came went.came
    (subst (λ (b : Bool). Came g.J.Job.log g.J.Job.plain g.P.Post.shows g.P.Post.tells g.P.Post.seats (Halts b) before c.go_on-did.new.post last board)
    c.halts_by-last.ensures told.came)) in
    record {
      came = came;
      bounded = λ found.
          let w = came.went found in
          let b = c.requires.bounded w.had in
          bounded g.J.Job.log g.J.Job.plain g.P.Post.shows g.P.Post.tells g.P.Post.seats _ r c.args.post.now last board came.options w b
          (λ halted. elim c.halts_by-last.result as
          (λ (d : Bool). c.halts_by-last.result ≡ d → last.options.stop_after ≡ Some (length (g.J.Job.log last.job))) [
            | true ↦ λ is. told.all is found
            | false ↦ λ is. absurd (not_halted g.J.Job.log g.P.Post.shows r b c.has_done_all-due.ensures.few (sym c.has_done_all-due.ensures.done ∙ early)
                (sym heard.halted ∙ sym served.halted ∙ sym went.halted ∙ ap (λ (s : _). (g.P.Post.shows s).halted) (sym (told.seat is)) ∙ halted))
          ] refl)
          (λ stopped. absurd (true_not_false last.stopped stopped (ap (λ (x : _). x.stopped) told.same ∙ went.goes.1)));
      waits = λ e.
          let waited = waited_alone some did (sym same ∙ e) in
          let still = told.still (c.halts_by-last.ensures ∙ ap (λ (d : Did). halts_by d all) waited) in
          subst (λ (b : _). Waits r.me (g.P.Post.tells b)) (sym still)
          (subst (λ (k : ℕ). Waits k (g.P.Post.tells c.go_on-did.new.post)) (went.came.me ∙ served.came.me ∙ heard.came.me) (went.waits waited));
      handled = λ e found. ap (λ (j : _). length (g.J.Job.log j)) job
          ∙ went.handled (handled_before some did (sym same ∙ e)) (ap (λ (x : _). x.book.lost) (sym told.same) ∙ found) ∙ ap (λ (l : _). length l + 1) log;
      other = λ ne. ap g.J.Job.log job ∙ went.other (λ e. ne (same ∙ handled_still some did e)) ∙ log;
      stopped = λ e. absurd (went.goes.0 (stopped_before some did (sym same ∙ e)));
      goes = λ ne. ap (λ (x : _). x.stopped) told.same ∙ went.goes.1;
    }

pub tell_halt-requires-clause-due : goal.tell_halt-requires-clause-due
tell_halt-requires-clause-due g c = λ is found.
    let r = c.args.self.now in
    let heard = c.hear-ring.ensures in
    let served = c.serve-some.ensures in
    let went = c.go_on-did.ensures in
    let last = c.go_on-did.new.self in
    let board = c.go_on-did.new.post in
    let early = (goes_neither c.has_done_all-due.result c.is_to_halt-halts.result c.hear-ring.result c.is_to_halt-halts.ensures c.if-halts.false).0 in
    let came = came_on g.J.Job.log g.J.Job.plain g.P.Post.shows g.P.Post.tells g.P.Post.seats c.hear-ring.result c.serve-some.result c.go_on-did.result
    (record {
      r = r;
      p = c.args.post.now;
      r1 = c.hear-ring.new.self;
      p1 = c.hear-ring.new.post;
      r2 = c.serve-some.new.self;
      p2 = c.serve-some.new.post;
      queue = c.settle.new.queue;
      r3 = last;
      p3 = board;
      r4 = last;
      p4 = board;
    }) c.in_default.not-Over (ap (λ (x : _). x.queue) heard.same) c.settle.ensures.lost c.settle.ensures.kept heard.came served.came went.came in
    let w = came.went found in
    has_all_after g.J.Job.log g.J.Job.plain g.P.Post.shows g.P.Post.tells g.P.Post.seats _ r c.args.post.now last board came.options w
    (c.requires.bounded w.had) c.has_done_all-due.ensures.few (sym c.has_done_all-due.ensures.done ∙ early)
    (went.halted ∙ served.halted ∙ heard.halted) went.goes.1
    (sym c.has_done_all-all.ensures.done ∙ halts_due c.go_on-did.result c.has_done_all-all.result (sym c.halts_by-last.ensures ∙ is))

pub tell_halt-requires-clause-live : goal.tell_halt-requires-clause-live
tell_halt-requires-clause-live g c = λ is.
    c.go_on-did.ensures.live (halts_handled c.go_on-did.result c.has_done_all-all.result (sym c.halts_by-last.ensures ∙ is))

pub returns-then-halts : goal.returns-then-halts
returns-then-halts g c =
    let r = c.args.self.now in
    let heard = c.hear-ring.ensures in
    let wound = c.wind_up.ensures in
    let last = c.wind_up.new.self in
    let board = c.wind_up.new.post in
    let ring = c.hear-ring.result in
    let due = c.has_done_all-due.result in
    let first = c.tells_first.result in
    let log : g.J.Job.log last.job ≡ g.J.Job.log r.job = ap g.J.Job.log (wound.job ∙ heard.job) in
    let came = came_wound g.J.Job.log g.J.Job.heard g.J.Job.plain g.P.Post.shows g.P.Post.tells g.P.Post.seats ring
    first c.wind_up.result r c.args.post.now c.hear-ring.new.self c.hear-ring.new.post last board c.in_default.not-Over heard.read
    (halts_is ring r due c.is_to_halt-halts.result true c.has_done_all-due.ensures.done
    c.is_to_halt-halts.ensures c.if-halts.true) (first_is ring r due first c.has_done_all-due.ensures.done c.tells_first.ensures)
    (ap (λ (x : _). x.asked) heard.same) (wound.job ∙ heard.job) heard.came wound.came in
    record {
      came = came;
      bounded = λ found.
          let w = came.went found in
          let b = c.requires.bounded w.had in
          bounded g.J.Job.log g.J.Job.plain g.P.Post.shows g.P.Post.tells g.P.Post.seats _ r c.args.post.now last board came.options w b
          (λ halted. elim first as (λ (d : Bool). first ≡ d → last.options.stop_after ≡ Some (length (g.J.Job.log last.job))) [
            | true ↦ λ is. ap (λ (o : Options). o.stop_after) came.options
                ∙ has_all g.J.Job.log g.P.Post.shows r b (sym c.has_done_all-due.ensures.done ∙ due_first due first ring c.tells_first.ensures is)
                ∙ ap (λ (l : _). Some (length l)) (sym log)
            | false ↦ λ is. ap (λ (o : Options). o.stop_after) came.options ∙ b.halts (sym heard.halted ∙ sym (wound.halts is) ∙ halted)
                ∙ ap (λ (l : _). Some (length l)) (sym log)
          ] refl)
          (λ stopped. wound.knows_halt);
      waits = λ e. subst (λ (k : ℕ). Waits k (g.P.Post.tells board)) (wound.came.me ∙ heard.came.me) (wound.waits e);
      handled = λ e. absurd (wound.other e);
      other = λ ne. log;
      stopped = wound.stopped;
      goes = wound.goes;
    }

pub go_on-did-requires-clause-halt : goal.go_on-did-requires-clause-halt
go_on-did-requires-clause-halt g c = not_halted_ring c.hear-ring.result
    (goes_neither c.has_done_all-due.result c.is_to_halt-halts.result c.hear-ring.result c.is_to_halt-halts.ensures c.if-halts.false).1

pub go_on-did-requires-clause-may : goal.go_on-did-requires-clause-may
go_on-did-requires-clause-may g c = λ found.
    let r = c.args.self.now in
    let early = (goes_neither c.has_done_all-due.result c.is_to_halt-halts.result c.hear-ring.result c.is_to_halt-halts.ensures c.if-halts.false).0 in
    let served = c.serve-some.ensures in
    let heard = c.hear-ring.ensures in
    let had = (heard.came.went (served.came.went found).had).had in
    let may = may_handle g.J.Job.log g.P.Post.shows r (c.requires.bounded had) c.has_done_all-due.ensures.few
    (sym c.has_done_all-due.ensures.done ∙ early) in
    subst (λ (j : _). MayHandle c.serve-some.new.self.options (length (g.J.Job.log j))) (sym (served.job ∙ heard.job))
    (subst (λ (o : Options). MayHandle o (length (g.J.Job.log r.job))) (sym (served.came.options ∙ heard.came.options)) may)

pub wind_up-requires-clause-halted : goal.wind_up-requires-clause-halted
wind_up-requires-clause-halted g c = λ none.
    let read = halt_unless_first c.has_done_all-due.result c.is_to_halt-halts.result c.tells_first.result c.hear-ring.result c.is_to_halt-halts.ensures
    c.if-halts.true c.tells_first.ensures none in
    (c.hear-ring.ensures.told read, c.hear-ring.ensures.knows_halt read)

pub wind_up-requires-clause-due : goal.wind_up-requires-clause-due
wind_up-requires-clause-due g c = λ is found.
    let r = c.args.self.now in
    let heard = c.hear-ring.ensures in
    let had = (heard.came.went found).had in
    ap (λ (o : Options). o.stop_after) heard.came.options
    ∙ has_all g.J.Job.log g.P.Post.shows r (c.requires.bounded had) (sym c.has_done_all-due.ensures.done
    ∙ due_first c.has_done_all-due.result c.tells_first.result c.hear-ring.result c.tells_first.ensures is)
    ∙ ap (λ (j : _). Some (length (g.J.Job.log j))) (sym heard.job)
