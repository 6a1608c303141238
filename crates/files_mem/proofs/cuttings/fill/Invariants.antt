use Rattle.files_mem.proofs.Prelude.{◌≡◌, ◌≤◌, take, vec_capacity, bytes_of_all}
use Rattle.files_mem.proofs.cuttings.fill.Given as goal

abbrev pub invariant-loop-span : goal.invariant-loop-span
invariant-loop-span l = record {
  bytes : l.room.items ≡ bytes_of_all (take l.span-index l.spans);
  capacity : vec_capacity l.fn.room ≤ vec_capacity l.room;
}
