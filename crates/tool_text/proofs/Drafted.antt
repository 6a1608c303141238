-- What stands and what is added behind it.
use Rattle.tool_text.proofs.Prelude.{take-append-le, drop-append-le, take-append-drop}

pub ruleset drafted = (take-append-le, drop-append-le, take-append-drop)
