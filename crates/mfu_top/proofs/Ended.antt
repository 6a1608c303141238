-- How a run ended whose words were read.
use Rattle.mfu_top.proofs.Prelude.{◌≡◌, ◌⊎◌, inl, inr, ⊎_elim, ℕ, List, true, sym, ap, subst, ◌∙◌, Result, Ok, Err, IfOk, IfSome, Option, Some, None}
use Rattle.mfu_top.proofs.Prelude.{StoodStill, Command, WordsError, Refusal, Asked, asked_by, reading, Within, WordsAskWithinLimits, Report, Status, Stop, Side}
use Rattle.mfu_top.proofs.Prelude.{Stream, Told, ToldRefusal, status_of, Reports, Stops, Fine, may_stop, EndsInTime, EndedWell, FineRunsSucceed}
use Rattle.run_report.specs.declared.statuses.Status.TheVariants as status

-- what words ask for is within limits
pub within : (words : List (List ℕ)) (r : Result Command WordsError) → WordsAskWithinLimits → IfOk r (λ command. reading words ≡ Ok (asked_by command)) →
    IfOk r (λ command. Within (asked_by command))
within words (Ok command) law read = law words (asked_by command) read
within words (Err e) law read = tt

-- the counts of the two sinks, before a run and after it
pub record Counts : Type 0 where
  pub out : ℕ
  pub out' : ℕ
  pub notes : ℕ
  pub notes' : ℕ

-- it did all, or memory was wanting, or it stopped as its words say, where nothing stands against it and no sink fails
abbrev pub Completes : ℕ → Side → Side → Counts → Status → Asked → Type 0
Completes now before after counts answer asked =
    Fine asked now before after → StoodStill counts.out counts.out' → StoodStill counts.notes counts.notes' → EndedWell asked answer

of_reading : (words : List (List ℕ)) (asked : Asked) (P : Asked → Type 0) → reading words ≡ Ok asked → P asked → IfOk (reading words) P
of_reading words asked P e h = subst (λ r. IfOk r P) (sym e) h

-- a run that came to print its report
pub printed : (words : List (List ℕ)) (asked : Asked) (now : ℕ) (before after : Side) (counts : Counts) (report : Report) (answer : Status) →
    reading words ≡ Ok asked →
    FineRunsSucceed → Within asked → Reports asked now before after report →
    (report.failed ≡ 0 → StoodStill counts.out counts.out' → StoodStill counts.notes counts.notes' → answer ≡ status.Done) →
    IfOk (reading words) (Completes now before after counts answer)
printed words asked now before after counts report answer read law limits is put =
    of_reading words asked (Completes now before after counts answer) read
    (λ fine out notes. inl (put ((law asked now before after limits fine).names_nothing report is) out notes))

-- the status of a run that ended in time
in_time : (asked : Asked) (why : Stop) (answer : Status) (old new : Stream) → EndsInTime asked why → Told why answer old new →
    (answer ≡ status.Memory) ⊎ ((may_stop asked ≡ true) × (answer ≡ status.Stopped))
in_time asked why answer old new (inl memory) told = inl (⊎_elim (λ t. t.0 ∙ ap status_of memory) (λ t. t.0) told)
in_time asked why answer old new (inr stops) told = ⊎_elim (λ t. inr (stops.0, t.0 ∙ ap status_of stops.1.2)) (λ t. inl t.0) told

-- a run that stopped
pub stopped : (words : List (List ℕ)) (asked : Asked) (now : ℕ) (before after : Side) (counts : Counts) (why : Stop) (answer : Status) (old new : Stream) →
    reading words ≡ Ok asked →
    FineRunsSucceed → Within asked → Stops asked before after why → Told why answer old new → IfOk (reading words) (Completes now before after counts answer)
stopped words asked now before after counts why answer old new read law limits by told =
    of_reading words asked (Completes now before after counts answer) read
    (λ fine out notes. inr (in_time asked why answer old new ((law asked now before after limits fine).ends_in_time why by) told))

-- ---- words that were not read

pub in_any : (r : Result Asked Refusal) (P : Asked → Type 0) → ((asked : Asked) → P asked) → IfOk r P
in_any (Ok asked) P all = all asked
in_any (Err refusal) P all = tt

-- a run whose words were not read
pub refused : (words : List (List ℕ)) (now : ℕ) (before after : Side) (counts : Counts) (why : Option Refusal) (answer : Status) (old new : Stream) →
    IfSome why (λ refusal. reading words ≡ Err refusal) → ToldRefusal why answer old new → IfOk (reading words) (Completes now before after counts answer)
refused words now before after counts (Some refusal) answer old new is told = subst (λ r. IfOk r (Completes now before after counts answer)) (sym is) tt
refused words now before after counts None answer old new is told =
    in_any (reading words) (Completes now before after counts answer) (λ asked fine out notes. inr (inl told.0))
