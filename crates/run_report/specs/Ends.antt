-- What the sinks hold when a run ends. Our own.
use Rattle.std.specs.Prelude.{◌≡◌, ◌⊎◌, ℕ, ◌++◌, List, Some, is_some, IfSome}
use Rattle.outside.specs.Count.{RoseBy}
use Rattle.outside.specs.Sinks.{GrewByPrefix}
use Rattle.run_report.specs.declared.reports.Report.{Report}
use Rattle.run_report.specs.Sides.{Stream}

-- a sink's text grew by all of these bytes, where it tells its text, and it still tells it
abbrev pub Grew : List ℕ → Stream → Stream → Type 0
Grew bytes old new = IfSome old.text (λ text. new.text ≡ Some (text ++ bytes))

-- or by some from the front, and it still tells it
abbrev pub GrewBySome : List ℕ → Stream → Stream → Type 0
GrewBySome bytes old new = (is_some new.text ≡ is_some old.text) × IfSome old.text (λ text. IfSome new.text (GrewByPrefix bytes text))

-- one line, or what a sink that failed took of it
abbrev pub GrewByLine : List ℕ → Stream → Stream → Type 0
GrewByLine line old new = Grew line old new ⊎ (GrewBySome line old new × RoseBy 1 old.count new.count)

-- both texts of a report stand in their sinks
abbrev pub Printed : Report → (out out' notes notes' : Stream) → Type 0
Printed report out out' notes notes' = Grew report.out out out' × Grew report.notes notes notes'
