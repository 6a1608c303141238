-- Definitions for the contracts of the crate's own steps alone. No clause of a public function rests on them, so no reader has to believe them.
use Rattle.std.specs.Prelude.{◌≡◌, Result, OnOk, OnErr}
use Rattle.std.specs.Result.{result_err}
use Rattle.ring_core.specs.World.{Seen}
use Rattle.ring_core.specs.Step.{refused, after}
use Rattle.ring_core.specs.declared.events.Event.{Event}
use Rattle.ring_core.specs.declared.events.Reason.{Reason}

-- an event is taken, or refused with its first reason, and then nothing changes
abbrev pub Takes : Seen → Event → Result (Unit {0}) Reason → Seen → Type 0
Takes old event result new = (result_err result ≡ refused old event) × OnOk result (new ≡ after old event) × OnErr result (new ≡ old)
