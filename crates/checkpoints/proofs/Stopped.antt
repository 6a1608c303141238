-- Why no checkpoint was written, step by step.
use Rattle.checkpoints.proofs.Prelude.{◌≡◌, ◌⊎◌, inl, inr, ℕ, ◌<◌, ◌≤◌, List, Some, refl, sym, subst, IfErr, IfSome, Result, Ok, Err, is_some, RoseBy}
use Rattle.checkpoints.proofs.Prelude.{WriteError, Entry, ListsError, HasPlace, SameButFiles, Stop, Side, output_of, StopsSaving, list_path, IsMeant}
use Rattle.checkpoints.proofs.Prelude.{stop_of_lists, IsCleared, StopsWriting}
use Rattle.outside.specs.declared.plots.WriteError.TheVariants as write
use Rattle.circle_lists.specs.Checkpoint as lists
use Rattle.run_report.specs.declared.stops.Trouble.TheVariants as trouble
use Rattle.run_report.specs.declared.stops.Stop.TheVariants as stop

-- why the old list file is not removed
abbrev pub NotRemoved : List ℕ → ℕ → ℕ → Stop → Type 0
NotRemoved path old new why = (why ≡ stop.OutOfMemory) ⊎ ((why ≡ stop.ListFile trouble.Fault path) × RoseBy 1 old new)

if_err : {E : Type 0} (P : E → Type 0) (result : Result (Unit {0}) E) (e : E) → result ≡ Err e → P e → IfErr result P
if_err P result e is p = subst (λ r. IfErr r P) (sym is) p

if_ok : {E : Type 0} (P : E → Type 0) (result : Result (Unit {0}) E) → result ≡ Ok tt → IfErr result P
if_ok P result is = subst (λ r. IfErr r P) (sym is) tt

pub meant_stops : (refused : WriteError) (path : List ℕ) (result : Result (Unit {0}) Stop) (old new : ℕ) → IsMeant refused path result →
    (refused ≡ write.Failed → RoseBy 1 old new) → IfErr result (NotRemoved path old new)
meant_stops write.Failed path result old new (inl is) rose = if_err (NotRemoved path old new) result stop.OutOfMemory is (inl refl)
meant_stops write.Failed path result old new (inr is) rose =
    if_err (NotRemoved path old new) result (stop.ListFile trouble.Fault path) is (inr (refl, rose refl))
meant_stops write.OutOfMemory path result old new is rose = if_err (NotRemoved path old new) result stop.OutOfMemory is (inl refl)
meant_stops write.Exists path result old new is rose = if_ok (NotRemoved path old new) result is
meant_stops write.NoParent path result old new is rose = if_ok (NotRemoved path old new) result is
meant_stops write.WrongKind path result old new is rose = if_ok (NotRemoved path old new) result is
meant_stops write.NotEmpty path result old new is rose = if_ok (NotRemoved path old new) result is
meant_stops write.Absent path result old new is rose = if_ok (NotRemoved path old new) result is

pub kept_stops : (dir : List ℕ) (ranks : ℕ) (done : List Entry) (before after : Side) (why : Stop) →
    NotRemoved (list_path dir) before.count after.count why → StopsWriting dir ranks done before after why
kept_stops dir ranks done before after why (inl memory) = inl memory
kept_stops dir ranks done before after why (inr fault) = inr (inr (inl (record { counted = fault.1; told = fault.0 })))

pub ranks_stop : (dir : List ℕ) (ranks : ℕ) (done : List Entry) (before mid after : Side) (error : ListsError) (why : Stop) → IsCleared dir before mid →
    mid.count ≤ after.count → lists.StopsWriting dir ranks mid.tree mid.count after.count error → why ≡ stop_of_lists error →
    IfSome mid.tree (λ files. IfSome after.tree (SameButFiles dir ranks files)) → StopsWriting dir ranks done before after why
ranks_stop dir ranks done before mid after error why cleared still stops told rest =
    inr (inr (inr (record {
      between = mid;
      cleared = cleared;
      still = still;
      stops = inl (record { error = error; stops = stops; told = told; rest = rest });
    })))

-- what the writing of the ranks' files left, at a side
pub record RanksAre (dir : List ℕ) (ranks : ℕ) (mid last : Side) : Type 0 where
  pub places : (rank : ℕ) → rank < ranks → HasPlace dir mid.tree rank
  pub tells : is_some last.tree ≡ is_some mid.tree
  pub rest : IfSome mid.tree (λ files. IfSome last.tree (SameButFiles dir ranks files))
  pub kept : mid.count ≤ last.count

pub list_stop : (dir path : List ℕ) (ranks : ℕ) (done : List Entry) (before mid last after : Side) (result : Result (Unit {0}) Stop) → path ≡ list_path dir →
    IsCleared dir before mid → RanksAre dir ranks mid last → mid.count ≤ after.count →
    IfErr result (StopsSaving (output_of (Some path) done) last after) → IfErr result (StopsWriting dir ranks done before after)
list_stop dir path ranks done before mid last after (Ok done_) is cleared ranks_are still stops = tt
list_stop dir path ranks done before mid last after (Err why) is cleared ranks_are still stops =
    inr (inr (inr (record {
      between = mid;
      cleared = cleared;
      still = still;
      stops = inr (record {
        places = ranks_are.places;
        between = last;
        tells = ranks_are.tells;
        rest = ranks_are.rest;
        kept = ranks_are.kept;
        stops = subst (λ p. StopsSaving (output_of (Some p) done) last after why) is stops;
      });
    })))
