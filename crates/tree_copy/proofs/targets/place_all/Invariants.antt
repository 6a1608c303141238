use Rattle.tree_copy.proofs.Prelude.{◌≡◌, ◌-◌, ◌≤◌, None, length, map, take, All, refusal, treated, has_room, items_of}
use Rattle.tree_copy.proofs.targets.place_all.Given as goal

-- the items of the entries that were passed
abbrev pub invariant-loop-cursor : goal.invariant-loop-cursor
invariant-loop-cursor l = record {
  of_list : l.cursor.0 ≡ l.list;
  inside : l.cursor.1 ≤ length l.list;
  items : l.placed.items.items ≡ items_of l.pairs (take l.cursor.1 l.list);
  fits : l.placed.fits.items ≡ map (has_room l.pairs) (treated (take l.cursor.1 l.list));
  paths : All (λ x. refusal x.path ≡ None) l.placed.items.items;
}

abbrev pub decreases-loop-cursor : goal.decreases-loop-cursor
decreases-loop-cursor l = length l.list - l.cursor.1
