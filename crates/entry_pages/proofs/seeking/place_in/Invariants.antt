use Rattle.entry_pages.proofs.Prelude.{◌≡◌, [], unpacked, IsSeek}
use Rattle.entry_pages.proofs.seeking.place_in.Given as goal

abbrev pub invariant-loop-k : goal.invariant-loop-k
invariant-loop-k l = record {
  here : l.leads ≡ (l.heads, l.k);
  seek : IsSeek l.heads l.rests l.wanted l.k l.at l.same (unpacked [] l.heads l.rests);
}
