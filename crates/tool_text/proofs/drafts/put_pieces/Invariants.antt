use Rattle.tool_text.proofs.Prelude.{◌≡◌, ◌++◌, take, IfSome, Some, flat_map, is_some, RoseBy}
use Rattle.tool_text.proofs.drafts.put_pieces.Given as goal

abbrev pub invariant-loop-piece : goal.invariant-loop-piece
invariant-loop-piece g l =
    let sink = g.S.Sink in
    record {
      sent : IfSome (sink.text l.fn.sink) (λ old. sink.text l.sink ≡ Some (old ++ flat_map (λ piece. piece.items) (take l.piece-index l.pieces)));
      tells : is_some (sink.text l.sink) ≡ is_some (sink.text l.fn.sink);
      count : RoseBy 0 (sink.count l.fn.sink) (sink.count l.sink);
    }
