use Rattle.sum_tree.proofs.Prelude.{◌≡◌, ℕ, ◌+◌, ◌<◌, [], true, length, get_or, All, fresh, IsSeat, IsUnread, shown_by, SumSeat}
use Rattle.sum_tree.specs.Plain.{fresh as fresh_shown}
use Rattle.sum_tree.proofs.sum_trees.SumTree.deal_all.Given as goal

abbrev pub invariant-loop-number : goal.invariant-loop-number
invariant-loop-number l = record {
  table : l.first.table_id ≡ l.self.table.shared.table_id;
  size : l.self.n ≡ l.n;
  slots : l.first.me.1 ≡ [];
  own : l.first.me.0.own ≡ fresh l.n l.self.width 0;
  live : l.first.me.0.live ≡ true;
  alone : l.first.me.0.kept ≡ [];
  made : l.first.me.0.made ≡ l.number;
  count : length l.seats.items + 1 ≡ l.number;
  each : (k : ℕ) (d : SumSeat) → k < length l.seats.items → IsSeat l.self (get_or l.seats.items k d)
      × (shown_by (get_or l.seats.items k d) ≡ fresh_shown l.n l.self.width (k + 1));
  unread : All IsUnread l.seats.items;
}
