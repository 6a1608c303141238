-- What the steps of dcp told, as its own words say it.
use Rattle.copy_report.proofs.Prelude.{◌≡◌, inr, ℕ, ◌≤◌, List, IfSome, Ok, length, ap, sym, ◌∙◌, subst, length-map, Entry, max_entries, Fate, SameButTargets}
use Rattle.copy_report.proofs.Prelude.{treated, Pair, CopyAsked, Side, side_with, Walked, Copies, LeavesCopy, Places, Surveys}
use Rattle.std.proofs.Common.{is_some}

-- the look at the destination, after which the targets were placed: it leaves the tree as it was
pub record Looked (asked : CopyAsked) (before looked : Side) (pairs : List Pair) : Type 0 where
  pub places : Places asked.sources asked.dest before.tree (Ok pairs)
  pub same : looked.tree ≡ before.tree
  pub kept : before.count ≤ looked.count

pub looked_by : (asked : CopyAsked) (before looked : Side) (pairs : List Pair) (sources : List (List ℕ)) → sources ≡ asked.sources →
    Places sources asked.dest before.tree (Ok pairs) → looked.tree ≡ before.tree → before.count ≤ looked.count → Looked asked before looked pairs
looked_by asked before looked pairs sources is places same kept = record {
  places = subst (λ ss. Places ss asked.dest before.tree (Ok pairs)) is places;
  same = same;
  kept = kept;
}

-- and so does the walk
pub surveys_by : (asked : CopyAsked) (before looked walked : Side) (pairs : List Pair) (entries : List Entry) → Looked asked before looked pairs →
    walked.tree ≡ looked.tree →
    Walked asked.sources entries looked walked → length entries ≤ max_entries → Surveys asked before (side_with before.tree walked.count) pairs entries
surveys_by asked before looked walked pairs entries l same w few = record {
  places = l.places;
  between = looked.count;
  kept = l.kept;
  walked = subst (λ t. Walked asked.sources entries (side_with before.tree looked.count) (side_with t walked.count)) (same ∙ l.same)
      (subst (λ t. Walked asked.sources entries (side_with t looked.count) walked) l.same w);
  few = few;
}

pub copies_by : (before walked after : Side) (pairs : List Pair) (entries : List Entry) (rows : List (List ℕ × Fate)) → walked.tree ≡ before.tree →
    Copies pairs entries rows walked after → Copies pairs entries rows (side_with before.tree walked.count) after
copies_by before walked after pairs entries rows same c = subst (λ t. Copies pairs entries rows (side_with t walked.count) after) same c

-- the targets may have changed
pub leaves_others : (asked : CopyAsked) (before walked after : Side) (pairs : List Pair) (entries : List Entry) → walked.tree ≡ before.tree →
    Surveys asked before (side_with before.tree walked.count) pairs entries → is_some after.tree ≡ is_some walked.tree →
    IfSome walked.tree (λ old. IfSome after.tree (SameButTargets pairs entries old)) → LeavesCopy asked before after
leaves_others asked before walked after pairs entries same s tells others = inr (record {
  pairs = pairs;
  entries = entries;
  found = walked.count;
  surveys = s;
  tells = subst (λ t. is_some after.tree ≡ is_some t) same tells;
  others = subst (λ t. IfSome t (λ old. IfSome after.tree (SameButTargets pairs entries old))) same others;
})

-- a row for each entry that has a stat
pub items_are : (pairs : List Pair) (entries : List Entry) (rows : List (List ℕ × Fate)) (before after : Side) → Copies pairs entries rows before after →
    length rows ≡ length (treated entries)
items_are pairs entries rows before after c = sym (length-map rows (λ (row : List ℕ × Fate). row.0)) ∙ ap length c.paths
    ∙ length-map (treated entries) (λ (e : Entry). e.path)
