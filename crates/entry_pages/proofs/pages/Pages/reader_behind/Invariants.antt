use Rattle.entry_pages.proofs.Prelude.{◌≡◌, ◌+◌, ◌-◌, ◌*◌, ◌/◌, ◌<◌, slice_get, Some}
use Rattle.entry_pages.proofs.pages.Pages.reader_behind.Given as goal

abbrev pub invariant-loop : goal.invariant-loop
invariant-loop l = record {
  of_list : l.reader.0 ≡ l.self;
  passed : l.reader.1 ≡ 256 * (l.k / 256) + l.counter;
  held : 0 < l.counter → slice_get l.self (l.reader.1 - 1) ≡ Some l.reader.2;
}
