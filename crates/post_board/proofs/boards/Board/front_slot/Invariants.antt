use Rattle.post_board.proofs.Prelude.{◌≡◌, ℕ, ◌-◌, ◌<◌, map, length, get_or, deque_capacity, None, Contains, SameFields}
use Rattle.post_board.proofs.boards.Board.front_slot.Given as goal

abbrev pub invariant-loop-step : goal.invariant-loop-step
invariant-loop-step l = record {
  table : l.seat.seat.table_id ≡ l.fn.seat.seat.table_id;
  view : l.seat.seat.me.0 ≡ l.fn.seat.seat.me.0;
  slots : l.seat.seat.me.1 ≡ map (λ r. (r, None)) l.seat.held.items;
  same : SameFields l.fn.seat l.seat;
  room : deque_capacity l.seat.held ≡ deque_capacity l.fn.seat.held;
  long : length l.seat.held.items ≡ length l.fn.seat.held.items;
  has : (r : ℕ) → Contains l.fn.seat.held.items r → Contains l.seat.held.items r;
  within : l.place - l.step < length l.seat.held.items;
  front : get_or l.seat.held.items (l.place - l.step) 0 ≡ l.to;
}
