-- What is told of a walk, from its roots on.
use Rattle.run_entries.proofs.Prelude.{ℕ, ◌<◌, List, Option, Some, None, IfSome, ◌≡◌, Bool, true, false, ◌&&◌, refl, subst, arith, Result, Ok, Err, IfOk, ◌==◌}
use Rattle.run_entries.proofs.Prelude.{flat_map, IsStrictlySortedBy, IsPermutation-refl, nat_tests, path_cmp, Files, Entry, max_entries, roots, Common}
use Rattle.run_entries.proofs.Prelude.{CommonWithin, WalkError, walk, answers_in, IsRoots, IsFound, IsWalkOf, FoundTooMany, IfTooMany, Side, Entries, Walked}
use Rattle.run_entries.proofs.Prelude.{StopsListing, stop_of_walk, keeps_events, IsAccount}
use Rattle.std.specs.Prelude.{◌||◌}
use Rattle.tree_walk.specs.declared.errors.WalkError.TheVariants as error

-- starts that stand in path order are walked one after the other
in_order : (tree : Option Files) (starts : List (List ℕ)) (entries : List Entry) → IsStrictlySortedBy path_cmp starts →
    IfSome tree (λ files. IsWalkOf files entries starts) →
    IfSome tree (λ files. entries ≡ flat_map (walk files (answers_in entries)) starts)
in_order None starts entries ascend told = tt
in_order (Some files) starts entries ascend told = told starts (IsPermutation-refl starts) ascend

-- what is found from the roots of the given paths is a walk of them
pub walked_from : (before after : Side) (given starts : List (List ℕ)) (entries : List Entry) → IsRoots given starts →
    IsFound before.tree starts before.count after.count entries → Walked given entries before after
walked_from before after given starts entries are is = record {
  roots = starts;
  are = are;
  told = in_order before.tree starts entries are.ascend is.told;
  valid = is.valid;
  ascend = is.ascend;
  within = is.within;
  counted = is.counted;
}

-- events are kept on one host alone
one_host : (trace shares : Bool) (hosts : ℕ) → (trace ≡ true → hosts ≡ 1) → (trace || (shares && hosts == 1)) ≡ true → hosts ≡ 1
one_host true shares hosts one e = one refl
one_host false true hosts one e = grind (arith, nat_tests)
one_host false false hosts one e = cc

pub kept_on_one_host : (common : Common) → CommonWithin common → keeps_events common ≡ true → common.hosts ≡ 1
kept_on_one_host common within e = one_host common.trace common.shares common.hosts within.trace e

-- a walk of the roots is one of the given paths
pub told : (common : Common) (before after : Side) (given starts : List (List ℕ)) (r : Result Entries WalkError) → IsRoots given starts →
    IfOk r (λ entries. IsFound before.tree starts before.count after.count entries.list) →
    IfOk r (λ entries. IsAccount common before.tree starts entries.list entries.account) →
    IfOk r (λ entries. (walked : Walked given entries.list before after) × IsAccount common before.tree walked.roots entries.list entries.account)
unfolding walked_from
told common before after given starts (Ok entries) are is account = (walked_from before after given starts entries.list are is, account)
told common before after given starts (Err e) are is account = tt

-- a walk of the roots that gave no list gives none of the given paths
pub stops : (before after : Side) (given starts : List (List ℕ)) (e : WalkError) → IsRoots given starts →
    IfTooMany e (FoundTooMany before.tree starts before.count after.count) → StopsListing (roots given) before after (stop_of_walk e)
stops before after given starts error.OutOfMemory are h = tt
stops before after given starts (error.TooMany n) are h = record {
  entries = h.list;
  walked = walked_from before after given starts h.list are h.found;
  many = subst (λ m. max_entries < m) h.number h.above;
}
