-- What the steps of dsync told, as its own words say it.
use Rattle.sync_report.proofs.Prelude.{◌≡◌, inr, ◌≤◌, Bool, List, Option, Some, None, IfSome, Ok, refl, ap, sym, subst, ◌∙◌, Files, Entry, Pair, Results}
use Rattle.sync_report.proofs.Prelude.{SameOutside, SyncAsked, Stop, Side, side_with, StopsEitherWalk, WalksBoth, Places, Surveys, LeavesSync, StopsSync, Syncs}
use Rattle.sync_report.proofs.Prelude.{pair_of}
use Rattle.std.specs.Option.{is_some}

-- the look, after which the pair was placed: it leaves the tree as it was
pub record Looked (pair : Pair) (before looked : Side) : Type 0 where
  pub places : Places pair before.tree (Ok tt)
  pub same : looked.tree ≡ before.tree
  pub kept : before.count ≤ looked.count

-- and so do the walks
pub surveys_by : (pair : Pair) (source dest : List Entry) (before looked walked : Side) → Looked pair before looked → walked.tree ≡ looked.tree →
    WalksBoth pair.source pair.target source dest looked walked → Surveys pair before (side_with before.tree walked.count) source dest
surveys_by pair source dest before looked walked l same w = record {
  places = l.places;
  between = looked.count;
  kept = l.kept;
  walks = subst (λ t. WalksBoth pair.source pair.target source dest (side_with before.tree looked.count) (side_with t walked.count)) (same ∙ l.same)
      (subst (λ t. WalksBoth pair.source pair.target source dest (side_with t looked.count) walked) l.same w);
}

pub syncs_by : (pair : Pair) (source dest : List Entry) (delete : Bool) (done : Results) (before walked after : Side) → walked.tree ≡ before.tree →
    Syncs pair source dest delete done walked after → Syncs pair source dest delete done (side_with before.tree walked.count) after
syncs_by pair source dest delete done before walked after same s =
    subst (λ t. Syncs pair source dest delete done (side_with t walked.count) after) same s

-- a walk stopped
pub stops_walking : (asked : SyncAsked) (before looked after : Side) (why : Stop) → Looked (pair_of asked) before looked → after.tree ≡ looked.tree →
    looked.count ≤ after.count → StopsEitherWalk asked.source asked.dest looked after why → StopsSync asked before after why
stops_walking asked before looked after why l same later stops = inr (
  inr (record {
    places = l.places;
    between = looked.count;
    kept = l.kept;
    later = later;
    stops = subst (λ t. StopsEitherWalk asked.source asked.dest (side_with t looked.count) after why) l.same stops;
  }),
  same ∙ l.same,
)

-- ---- what is left

pub unchanged : (asked : SyncAsked) (old new : Option Files) → new ≡ old → LeavesSync asked old new
unchanged asked old new same = (ap is_some same, by old same)
  where
    by : (t : Option Files) → new ≡ t → IfSome t (λ before. IfSome new (SameOutside asked.dest before))
    by None is = tt
    by (Some before) is = subst (λ t. IfSome t (SameOutside asked.dest before)) (sym is) (λ q off. refl)

pub leaves_rest : (asked : SyncAsked) (old walked new : Option Files) → walked ≡ old → is_some new ≡ is_some walked →
    IfSome walked (λ before. IfSome new (SameOutside asked.dest before)) → LeavesSync asked old new
leaves_rest asked old walked new same tells rest =
    subst (λ t. (is_some new ≡ is_some t) × IfSome t (λ before. IfSome new (SameOutside asked.dest before))) same (tells, rest)
