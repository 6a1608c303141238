-- The events in a rank's book. Our own.
use Rattle.std.specs.Prelude.{◌≡◌, Bool, true, false, if◌then◌else◌, List, [], ◌++◌}
use Rattle.ring_core.specs.declared.events.Event.{Event}
use Rattle.circle_run.specs.Books.{counted}
use Rattle.circle_run.specs.declared.books.Book.{Book}

-- unless the rank ran out of memory, these events were counted, and kept with a trace
pub record Writes (trace : Bool) (events : List Event) (b b' : Book) : Type 0 where
  pub sums : b'.sums ≡ b.sums
  pub lost : b.lost ≡ true → b'.lost ≡ true
  pub had : b'.lost ≡ false → b.lost ≡ false
  pub kept : b'.lost ≡ false → b'.events.items ≡ b.events.items ++ (if trace then events else [])
  pub share : b'.lost ≡ false → b'.share ≡ counted events b.share
