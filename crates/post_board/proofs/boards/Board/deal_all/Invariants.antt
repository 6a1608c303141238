use Rattle.post_board.proofs.Prelude.{◌≡◌, ℕ, ◌+◌, ◌<◌, [], true, length, get_or, Some, All, fresh, IsUnread, unused, BoardSeat}
use Rattle.post_board.specs.BoardSeats.{IsSeat, shown_by}
use Rattle.post_board.specs.Fresh.{fresh as fresh_shown}
use Rattle.post_board.proofs.boards.Board.deal_all.Given as goal

abbrev pub invariant-loop-number : goal.invariant-loop-number
invariant-loop-number l = record {
  table : l.first.table_id ≡ l.self.table.shared.table_id;
  size : l.self.n ≡ l.n;
  slots : l.first.me.1 ≡ [];
  own : l.first.me.0.own ≡ fresh l.n 0;
  live : l.first.me.0.live ≡ true;
  alone : l.first.me.0.kept ≡ [];
  made : l.first.me.0.made ≡ l.number;
  count : length l.seats.items + 1 ≡ l.number;
  each : (k : ℕ) (d : BoardSeat) → k < length l.seats.items → IsSeat l.self (get_or l.seats.items k d)
      × (shown_by (get_or l.seats.items k d) ≡ fresh_shown l.n (k + 1) (Some (unused l.n)));
  unread : All IsUnread l.seats.items;
}
