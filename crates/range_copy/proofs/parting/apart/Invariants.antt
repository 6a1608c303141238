use Rattle.range_copy.proofs.Prelude.{◌≡◌, ◌-◌, ◌≤◌, ◌++◌, true, None, IfSome, length, take, drop, All, refusal, ArePartsOf, exceeds, held_of}
use Rattle.range_copy.proofs.parting.apart.Given as goal

-- the parts of the entries that were passed, but for one that is held back
abbrev pub invariant-loop-cursor : goal.invariant-loop-cursor
invariant-loop-cursor l = record {
  of_list : l.cursor.0 ≡ l.list;
  inside : l.cursor.1 ≤ length l.list;
  parts : ArePartsOf l.piece l.parts (held_of l.held ++ drop l.cursor.1 l.list) l.list;
  held : IfSome l.held (λ e. exceeds l.piece e ≡ true);
  valid : All (λ e. refusal e.path ≡ None) (take l.cursor.1 l.list);
}

abbrev pub decreases-loop-cursor : goal.decreases-loop-cursor
decreases-loop-cursor l = length l.list - l.cursor.1
