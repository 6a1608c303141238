-- What only the clauses of this crate's own parts cite.
use Rattle.std.specs.Prelude.{◌≡◌, ◌⊎◌, Result, Ok, IfOk, IfErr, OnOk}
use Rattle.std.specs.Result.{result_err}
use Rattle.tool_words.specs.declared.errors.Refusal.{Refusal}
use Rattle.tool_words.specs.declared.errors.WordsError.{WordsError}
use Rattle.tool_words.specs.declared.errors.WordsError.TheVariants.{OutOfMemory}
use Rattle.tool_words.specs.Refusals.{refusal_in}

-- the error tells the refusal of the result, or that memory was wanting
abbrev pub Tells : {X : Type 0} → Result X Refusal → WordsError → Type 0
Tells r e = (result_err r ≡ refusal_in e) ⊎ (e ≡ OutOfMemory)

-- the result is what the reading gives, in these terms, or tells why it refuses
pub record Reads {X Y : Type 0} (reading : Result Y Refusal) (view : X → Y) (result : Result X WordsError) : Type 0 where
  pub read : IfOk result (λ x. reading ≡ Ok (view x))
  pub refused : IfErr result (λ e. Tells reading e)

-- what stands here is what the reading gives, or the result tells why it refuses
pub record Leaves {X Y : Type 0} (reading : Result Y Refusal) (here : Y) (result : Result X WordsError) : Type 0 where
  pub read : OnOk result (reading ≡ Ok here)
  pub refused : IfErr result (λ e. Tells reading e)
