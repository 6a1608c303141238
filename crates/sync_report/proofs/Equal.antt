-- Once a sync is done both trees are equal but for what the lists and the results name, and so but for the paths of the notes.
use Rattle.sync_report.proofs.Prelude.{◌≡◌, ℕ, ◌-◌, Bool, true, false, cond, List, [], ◌∷◌, map, length, Option, Some, None, IfSome, refl, ◌∙◌, sym, false≢true}
use Rattle.sync_report.proofs.Prelude.{All-from_recursion, recursion_from_All, IsTrue, get, AllByRecursion, is_within, is_name, joined, refusal, front-joined}
use Rattle.sync_report.proofs.Prelude.{is_under_by, itself, within_up, Files, IsTree, is_dir, is_root, names_in, children_are_names, Entry, Pair, IsFullList}
use Rattle.sync_report.proofs.Prelude.{SyncedRowsAgree, Results, Synced, walk_entries, EntriesAreTold, Answer, WalkAscends, WalkListsAll, all_told, children_of}
use Rattle.sync_report.proofs.Prelude.{list_failed, stat_failed, told, IsReady, MakesEqual}
use Rattle.path_text.proofs.Preorder.{some_bytes}
use Rattle.tree_walk.specs.Walk.{walk}
use Rattle.sync_report.proofs.Below.{apart, not_root}
use Rattle.sync_report.proofs.Walked.{IsWalk, all_tell, are_told, clear, whole_by_all}

-- ---- the walk of a tree in which no answer fails

kids_within : (top p : List ℕ) → IsTrue (is_within p top) → (names : List (List ℕ)) → AllByRecursion (λ n. IsTrue (is_name n)) names →
    AllByRecursion (λ c. IsTrue (is_within c top)) (map (joined p) names)
kids_within top p w [] h = tt
kids_within top p w (n ∷ names) h =
    (within_up (joined p n) p top (is_under_by (joined p n) p n (sym (front-joined p n)) (some_bytes n h.0)) w, kids_within top p w names h.1)

children_within : (files : Files) (answer : Answer) (top p : List ℕ) → IsTree files → IsTrue (is_within p top) →
    AllByRecursion (λ c. IsTrue (is_within c top)) (children_of answer files p)
children_within files stat_failed top p t w = tt
children_within files list_failed top p t w = tt
children_within files (told u) top p t w =
    elim (is_dir (get files p)) as (λ b. AllByRecursion (λ c. IsTrue (is_within c top)) (cond b (map (joined p) (names_in files p)) [])) [
      | true ↦ kids_within top p w (names_in files p) (recursion_from_All (λ n. IsTrue (is_name n)) (names_in files p) (children_are_names files p t).valid)
      | false ↦ tt
    ]

inside : (files : Files) (top : List ℕ) → IsTree files → AllByRecursion (λ e. IsTrue (is_within e.path top)) (walk files all_told top)
unfolding walk
inside files top t =
    walk_entries (λ q. IsTrue (is_within q top)) files all_told (λ q w. children_within files (all_told q) top q t w) (4096 - length top) top (itself top)

pub own_walk : WalkAscends → (files : Files) (top : List ℕ) → IsTree files → refusal top ≡ None → is_root top ≡ false →
    IsWalk files all_told top (walk files all_told top)
own_walk ascends files top t v low = record {
  tree = t;
  valid = v;
  low = low;
  is = refl;
  is_side = record {
    ascends = ascends files all_told top t v;
    within = All-from_recursion (λ (e : Entry). IsTrue (is_within e.path top)) (walk files all_told top) (inside files top t);
  };
}

-- the laws that this rests on
pub record Laws : Type 0 where
  pub agree : SyncedRowsAgree
  pub ascends : WalkAscends
  pub tells : EntriesAreTold
  pub lists : WalkListsAll

full : Laws → (files : Files) (top : List ℕ) → IsTree files → refusal top ≡ None → is_root top ≡ false →
    IsFullList top (walk files all_told top) files
full laws files top t v low =
    let list = walk files all_told top in
    let w = own_walk laws.ascends files top t v low in
    record {
      is_side = w.is_side;
      told = are_told files all_told list (all_tell laws.tells files all_told top list w);
      clear = clear laws.tells files top list w;
      whole = whole_by_all laws.tells laws.lists files top list w;
    }

-- ---- a sync that is done

pub makes_equal : Laws → (pair : Pair) (source dest : List Entry) (delete : Bool) (done : Results) (old new : Option Files) → IsReady pair source dest old →
    Synced pair source dest delete done old new → IfSome new IsTree → MakesEqual pair source dest delete done new
makes_equal laws pair source dest delete done old None r s t = tt
makes_equal laws pair source dest delete done None (Some after) r s t = absurd (false≢true (sym (s.copied.tells ∙ s.removed.tells)))
makes_equal laws pair source dest delete done (Some before) (Some after) r s t = λ there found compared.
    let off = apart pair.source pair.target r.can.apart in
    laws.agree pair source dest delete done before after (walk after all_told pair.source) (walk after all_told pair.target) found
    (record {
      can = r.can;
      from = r.from;
      to = r.to;
      tree = r.whole.tree;
      fits = r.fits;
      left = r.whole.left;
      right = r.whole.right;
      there = there;
      synced = s;
    })
    (record {
      tree = t;
      left = full laws after pair.source t r.from (not_root pair.target pair.source r.to off.second);
      right = full laws after pair.target t r.to (not_root pair.source pair.target r.from off.first);
      compared = compared;
    })
