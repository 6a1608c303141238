-- Why words are refused, which is never want of memory. Our own.
use Rattle.std.specs.Prelude.{ℕ, Result, Err, Option, Some, None}
use Rattle.tool_words.specs.declared.errors.Cause.{Cause}
use Rattle.tool_words.specs.declared.errors.Cause.TheVariants as cause
use Rattle.tool_words.specs.declared.errors.Refusal.{Refusal}
use Rattle.tool_words.specs.declared.errors.WordsError.{WordsError}
use Rattle.tool_words.specs.declared.errors.WordsError.TheVariants as error

-- the refusal that an error tells, if it tells one
abbrev pub refusal_in : WordsError → Option Refusal
refusal_in (error.NoTool word) = Some (record { word = word; cause = cause.NoTool })
refusal_in (error.UnknownTool word) = Some (record { word = word; cause = cause.UnknownTool })
refusal_in (error.UnknownOption word) = Some (record { word = word; cause = cause.UnknownOption })
refusal_in (error.NoValue word) = Some (record { word = word; cause = cause.NoValue })
refusal_in (error.BadValue word) = Some (record { word = word; cause = cause.BadValue })
refusal_in (error.NoPath word) = Some (record { word = word; cause = cause.NoPath })
refusal_in (error.TooManyPaths word) = Some (record { word = word; cause = cause.TooManyPaths })
refusal_in (error.Clash word) = Some (record { word = word; cause = cause.Clash })
refusal_in error.OutOfMemory = None

-- the word of this number is refused
abbrev pub refuse : {X : Type 0} → ℕ → Cause → Result X Refusal
refuse word cause = Err (record { word = word; cause = cause })
