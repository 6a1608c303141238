-- Files in memory that never fail. Our own.
use Rattle.std.specs.Prelude.{◌≡◌, ◌≢◌, Result, Err, []}
use Rattle.outside.specs.declared.plots.WriteError.{WriteError}
use Rattle.outside.specs.declared.plots.WriteError.TheVariants as write
use Rattle.files_mem.specs.Memory.{Memory}

-- no call is planned to fail, and none has failed
pub record IsSteady (m : Memory) : Type 0 where
  pub unplanned : m.planned ≡ []
  pub faultless : m.count ≡ 0

-- a call that writes does not fail if they are so, and leaves them so
abbrev pub StaysSteady : Memory → Result (Unit {0}) WriteError → Memory → Type 0
StaysSteady before result new = IsSteady before → IsSteady new × (result ≢ Err write.Failed)
