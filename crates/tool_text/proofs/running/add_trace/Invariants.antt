use Rattle.tool_text.proofs.Prelude.{◌≡◌, ◌++◌, take, trace_lines}
use Rattle.tool_text.proofs.running.add_trace.Given as goal

abbrev pub invariant-loop-event : goal.invariant-loop-event
invariant-loop-event l = record {
  added : l.draft.1 ≡ l.fn.draft.1 ++ trace_lines (take l.event-index l.events);
  stands : l.draft.0 ≡ l.fn.draft.0;
}
