-- What a run tells that ends with one line.
use Rattle.run_report.proofs.Prelude.{◌≡◌, ◌⊎◌, inl, inr, ℕ, List, subst, Result, Ok, Err, IfOk, OnOk, OnErr, Status, GrewByLine, memory_line, Stream}
use Rattle.run_report.specs.declared.statuses.Status.TheVariants as status

-- the line was made, and stands with its status; or no memory was found for it
pub told_by : {E : Type 0} (line : Result (List ℕ) E) (text : List ℕ) (by answer : Status) (old new : Stream) → IfOk line (λ t. t ≡ text) →
    OnOk line (answer ≡ by) →
    IfOk line (λ t. GrewByLine t old new) → OnErr line ((answer ≡ status.Memory) × GrewByLine memory_line old new) →
    ((answer ≡ by) × GrewByLine text old new) ⊎ ((answer ≡ status.Memory) × GrewByLine memory_line old new)
told_by (Ok t) text by answer old new is ends grew memory = inl (ends, subst (λ t. GrewByLine t old new) is grew)
told_by (Err e) text by answer old new is ends grew memory = inr memory
