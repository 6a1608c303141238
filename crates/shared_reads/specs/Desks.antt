-- Buffers. Our own.
use Rattle.std.specs.Prelude.{◌≡◌, ◌<◌, length}
use Rattle.shared_reads.specs.declared.desks.Desk.{Desk}

-- two buffers of one length that is not 0
pub record HasRoom (d : Desk) : Type 0 where
  pub some : 0 < length d.ours.items
  pub as_long : length d.theirs.items ≡ length d.ours.items
