-- What the steps of drm told, as its own words say it.
use Rattle.remove_report.proofs.Prelude.{◌≡◌, inl, inr, ⊎_elim, ℕ, Bool, true, false, List, Some, IfSome, is_some, ◌∙◌, subst, Entry, paths, SameButChosen}
use Rattle.remove_report.proofs.Prelude.{Note, RemoveAsked, roots, Stop, Side, side_with, Account, Finds, StopsFinding, Chooses, StopsRemove, LeavesBy}
use Rattle.remove_report.proofs.Prelude.{LeavesRemove}

-- choosing leaves the tree as it was
pub chooses_by : (asked : RemoveAsked) (now : ℕ) (before found : Side) (chosen : List Entry) (named : List Note) (account : Account)
    → Finds asked.common (roots asked.roots) (Some asked.choice) now before found chosen named account → found.tree ≡ before.tree
    → Chooses asked now before (side_with before.tree found.count) chosen named
chooses_by asked now before found chosen named account f same = record {
  account = account;
  finds = subst (λ t. Finds asked.common (roots asked.roots) (Some asked.choice) now before (side_with t found.count) chosen named account) same f;
}

pub stops_finding : (asked : RemoveAsked) (before after : Side) (why : Stop) → after.tree ≡ before.tree →
    StopsFinding (roots asked.roots) (Some asked.choice) before after why → StopsRemove asked before after why
stops_finding asked before after why same stops = ⊎_elim (λ is. inl is) (λ s. inr (s, same)) stops

-- nothing has changed
pub leaves_all : (asked : RemoveAsked) (now : ℕ) (before after : Side) → after.tree ≡ before.tree → LeavesRemove asked now before after
leaves_all asked now before after same = by asked.dryrun
  where
    by : (b : Bool) → LeavesBy b asked now before after
    by true = same
    by false = inl same

-- what was chosen may have, unless nothing was to be removed
pub leaves_others : (asked : RemoveAsked) (now : ℕ) (before found after : Side) (chosen : List Entry) (named : List Note) (account : Account) →
    Finds asked.common (roots asked.roots) (Some asked.choice) now before found chosen named account → found.tree ≡ before.tree →
    (asked.dryrun ≡ true → after.tree ≡ found.tree) → is_some after.tree ≡ is_some found.tree →
    IfSome found.tree (λ old. IfSome after.tree (SameButChosen (paths chosen) old)) → LeavesRemove asked now before after
leaves_others asked now before found after chosen named account finds same dry tells others = by asked.dryrun dry
  where
    by : (b : Bool) → (b ≡ true → after.tree ≡ found.tree) → LeavesBy b asked now before after
    by true dry = dry Rattle.std.proofs.Common.refl ∙ same
    by false dry = inr (record {
      found = found.count;
      chosen = chosen;
      named = named;
      chooses = chooses_by asked now before found chosen named account finds same;
      tells = subst (λ t. is_some after.tree ≡ is_some t) same tells;
      others = subst (λ t. IfSome t (λ old. IfSome after.tree (SameButChosen (paths chosen) old))) same others;
    })
