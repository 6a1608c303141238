-- What was looked at and listed, step by step.
use Rattle.run_entries.proofs.Prelude.{◌≡◌, inr, ℕ, ◌≤◌, List, [], Option, subst, arith, All-from_recursion, Files, Look, AreLooks, Origin, Choice, Stop, Side}
use Rattle.run_entries.proofs.Prelude.{side_with, newer_in, StopsListing, StopsFinding}
use Rattle.std.specs.List.Sorted.{IsStrictlySortedBy}

-- where nothing is looked at
pub no_looks : (tree : Option Files) (count : ℕ) → count ≤ 18446744073709551615 → AreLooks tree [] [] count count
unfolding IsStrictlySortedBy
no_looks tree count most = record {
  once = tt;
  every = All-from_recursion _ [] tt;
  none_else = All-from_recursion _ [] tt;
  told = All-from_recursion _ [] tt;
  counted = record { kept = omega arith; rose = omega (arith, most) };
}

-- the entries were not listed from a side that the looks left as it was
pub stops_after : (start : Origin) (choice : Option Choice) (before between after : Side) (looks : List Look) (why : Stop) → between.tree ≡ before.tree →
    AreLooks before.tree (newer_in choice) looks before.count between.count → between.count ≤ after.count → StopsListing start between after why →
    StopsFinding start choice before after why
stops_after start choice before between after looks why same looked later stops =
    inr (record {
      looks = looks;
      between = between.count;
      looked = looked;
      later = later;
      stops = subst (λ t. StopsListing start (side_with t between.count) after why) same stops;
    })
