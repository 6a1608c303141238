use Rattle.outside.proofs.Prelude.{◌≡◌, ◌≤◌, ◌++◌, ◌-◌, length, take, IfSome, Some, is_some, RoseBy}
use Rattle.outside.proofs.sinks.put_all.Given as goal

abbrev pub invariant-loop-at : goal.invariant-loop-at
invariant-loop-at g l =
    let sink = g.S.Sink in
    record {
      inside : l.at ≤ length l.bytes;
      sent : IfSome (sink.text l.fn.sink) (λ old. sink.text l.sink ≡ Some (old ++ take l.at l.bytes));
      tells : is_some (sink.text l.sink) ≡ is_some (sink.text l.fn.sink);
      count : RoseBy 0 (sink.count l.fn.sink) (sink.count l.sink);
    }

abbrev pub decreases-loop-at : goal.decreases-loop-at
decreases-loop-at g l = length l.bytes - l.at
