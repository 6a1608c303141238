-- What the steps of ddup told, as its own words say it.
use Rattle.dup_report.proofs.Prelude.{◌≡◌, ◌≤◌, List, length, subst, RoseBy, Entry, max_entries, IsGrouping, Grouping, DupAsked, Side, side_with, Walked}
use Rattle.dup_report.proofs.Prelude.{FindsGroups}

-- the roots were walked, and then the files were grouped
pub record Steps (asked : DupAsked) (entries : List Entry) (found : Grouping) (before walked after : Side) : Type 0 where
  pub walks : Walked asked.roots entries before walked
  pub few : length entries ≤ max_entries
  pub same : walked.tree ≡ before.tree
  pub grouped : IsGrouping walked.tree entries found
  pub counted : RoseBy (length found.failed) walked.count after.count

pub finds_by : (asked : DupAsked) (entries : List Entry) (found : Grouping) (before walked after : Side) → Steps asked entries found before walked after →
    FindsGroups asked entries found before after
finds_by asked entries found before walked after s = record {
  walked = walked.count;
  walks = subst (λ t. Walked asked.roots entries before (side_with t walked.count)) s.same s.walks;
  few = s.few;
  grouped = subst (λ t. IsGrouping t entries found) s.same s.grouped;
  counted = s.counted;
}
