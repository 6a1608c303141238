use Rattle.range_copy.proofs.Prelude.{◌≡◌, [], arith, ap, length, length-append, All-from_recursion, HasCounted, HasWorked, IsReady, spans_left, spans_of}
use Rattle.range_copy.proofs.Prelude.{HasShown}
use Rattle.range_copy.proofs.Counted.{blamed_ends, blamed_turns, blamed_works, none_blamed}
use Rattle.range_copy.proofs.Showing.{none_shown, read_ends, read_starts, read_turns, read_works, shown_ends, shown_turns, shown_works}
use Rattle.range_copy.proofs.Worked.{as_many, filling_ends, filling_starts, filling_turns, filling_works, many_left, none_out, paired, shrinks}
use Rattle.range_copy.proofs.Worked.{worked_many}
use Rattle.range_copy.proofs.turns.fill_all.Given as given
use Rattle.range_copy.proofs.turns.fill_all.Goals as goal
use Rattle.range_copy.proofs.turns.fill_all.Goals.{After-drop-loads}

pub loop-fillers-init : goal.loop-fillers-init
loop-fillers-init g c = record {
  filling = filling_starts g.T.Tree.tree g.S.Span.piece g.S.Span.holds c.args.source.now c.args.total c.args.fillers.now c.args.loads.items
      c.args.done.now.items c.requires.idle c.requires.fine c.requires.empty c.requires.loads;
  blamed = none_blamed _ c.args.fillers.now c.requires.fine;
  read = read_starts g.T.Tree.gives g.S.Span.piece g.S.Span.count c.args.source.now c.args.fillers.now c.args.done.now.items c.requires.idle
      c.requires.empty;
  shown = none_shown g.T.Tree.gives g.S.Span.piece g.S.Span.count c.args.source.now _ c.args.fillers.now c.requires.fine;
  some = c.requires.some;
  room = omega arith;
}

pub turn-requires-clause-room : goal.turn-requires-clause-room
turn-requires-clause-room g c =
    let i = c.loop-fillers.invariant in
    omega (arith, as_many _ _ _ _ _ i.filling, many_left c.args.loads.items, c.requires.room, i.room)

pub work_all-requires-clause-ready : goal.work_all-requires-clause-ready
work_all-requires-clause-ready g c κs within =
    let i = c.loop-fillers.invariant in
    All-from_recursion (IsReady g.S.Span.piece c.args.total) c.turn.new.fillers (c.turn.ensures.turn c.args.total i.filling.are_loads).ready

pub loop-fillers-preserved : goal.loop-fillers-preserved
loop-fillers-preserved g c =
    let i = c.loop-fillers.invariant in
    let before = c.loop-fillers.fillers in
    let dealt = c.turn.new.fillers in
    let after = c.work_all.new.fillers in
    let done = c.turn.new.done.items in
    let t = c.turn.ensures.turn c.args.total i.filling.are_loads in
    let len : length after ≡ length dealt = omega (arith, c.work_all.auto.fillers) in
    let worked = paired (HasWorked g.T.Tree.tree g.S.Span.piece g.S.Span.holds c.args.source.now c.args.total) dealt after len c.work_all.ensures.worked in
    let shown = paired (HasShown g.T.Tree.gives g.S.Span.piece g.S.Span.count c.args.source.now) dealt after len c.work_all.ensures.shown in
    let counted = paired (HasCounted g.T.Tree.count g.S.Span.count) dealt after len c.work_all.ensures.counted in
    record {
      filling = filling_works _ _ _ _ _ after (filling_turns _ _ _ _ _ i.filling (c.turn.ensures.turn c.args.total)) worked;
      blamed = blamed_works g.T.Tree.count g.S.Span.count dealt after done
          (blamed_turns g.T.Tree.count g.S.Span.count before dealt c.loop-fillers.done.items done t.hands t.taken i.blamed) counted;
      read = read_works g.T.Tree.gives g.S.Span.piece g.S.Span.count c.args.source.now dealt after done
          (read_turns g.T.Tree.gives g.S.Span.piece g.S.Span.count c.args.source.now before dealt c.loop-fillers.done.items done t.hands t.taken i.read)
          shown;
      shown = shown_works g.T.Tree.gives g.S.Span.piece g.S.Span.count c.args.source.now dealt after done
          (shown_turns g.T.Tree.gives g.S.Span.piece g.S.Span.count c.args.source.now before dealt c.loop-fillers.done.items done t.hands t.taken i.shown)
          shown;
      some = omega (arith, i.some, c.turn.auto.fillers, c.work_all.auto.fillers);
      room = omega (arith, c.turn.ensures.room, i.room);
    }

pub loop-fillers-smaller : goal.loop-fillers-smaller
loop-fillers-smaller g c =
    let i = c.loop-fillers.invariant in
    let t = c.turn.ensures.turn c.args.total i.filling.are_loads in
    let many = as_many _ _ _ _ _ i.filling in
    let worked = paired (HasWorked g.T.Tree.tree g.S.Span.piece g.S.Span.holds c.args.source.now c.args.total) c.turn.new.fillers c.work_all.new.fillers
    (omega (arith, c.work_all.auto.fillers)) c.work_all.ensures.worked in
    let same = worked_many g.T.Tree.tree g.S.Span.piece g.S.Span.holds c.args.source.now c.args.total c.turn.new.fillers c.work_all.new.fillers worked in
    let dealt = ap length t.dealt in
    let parts = length-append (spans_of c.turn.new.fillers) (spans_left c.turn.new.loads.items) in
    shrinks _ _ (length (spans_of c.turn.new.fillers)) (length c.loop-fillers.loads.items) (length c.turn.new.loads.items)
    (length c.loop-fillers.done.items) (length c.args.loads.items) same
    (omega (arith, dealt, parts, many_left c.turn.new.loads.items, many_left c.loop-fillers.loads.items)) t.fewer
    (omega (arith, many, many_left c.loop-fillers.loads.items, many_left c.args.loads.items))
    (omega (arith, c.loop-fillers-test.true, c.len-count.ensures, c.args.loads.ok.0, c.loop-fillers.done.ok.0))

pub returns-clause-filled : goal.returns-clause-filled
returns-clause-filled g c =
    filling_ends _ _ _ _ _ c.args.loads.items c.loop-fillers.invariant.filling
    (omega (arith, c.loop-fillers-test.false, c.len-count.ensures, c.args.loads.ok.0, c.loop-fillers.done.ok.0))

-- at the end no filler has a span
none_is_out : (g : given.Over) (c : After-drop-loads g) → spans_of c.loop-fillers.fillers ≡ []
none_is_out g c = none_out _ _ _ _ _ c.args.loads.items c.loop-fillers.invariant.filling
    (omega (arith, c.loop-fillers-test.false, c.len-count.ensures, c.args.loads.ok.0, c.loop-fillers.done.ok.0))

pub returns-clause-blamed : goal.returns-clause-blamed
returns-clause-blamed g c =
    blamed_ends g.T.Tree.count g.S.Span.count c.loop-fillers.fillers c.loop-fillers.done.items
    (none_is_out g (goal.at.returns-clause-blamed g c).After-drop-loads)
    c.loop-fillers.invariant.blamed

pub returns-clause-read : goal.returns-clause-read
returns-clause-read g c =
    read_ends g.T.Tree.gives g.S.Span.piece g.S.Span.count c.args.source.now c.loop-fillers.fillers c.loop-fillers.done.items
    (none_is_out g (goal.at.returns-clause-read g c).After-drop-loads)
    c.loop-fillers.invariant.read

pub returns-clause-shown : goal.returns-clause-shown
returns-clause-shown g c =
    shown_ends g.T.Tree.gives g.S.Span.piece g.S.Span.count c.args.source.now c.loop-fillers.fillers c.loop-fillers.done.items
    (none_is_out g (goal.at.returns-clause-shown g c).After-drop-loads)
    c.loop-fillers.invariant.shown
