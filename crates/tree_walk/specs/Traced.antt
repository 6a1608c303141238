-- The meaning of the events and of the numbers of progress of a walk. The events are those of circle_run, after libcircle
-- (LaFon et al., SC 2012). That the handled paths are the recursive walk is our own.
use Rattle.std.specs.Prelude.{◌≡◌, ℕ, ◌+◌, ◌<◌, ◌≤◌, List, [], ◌∷◌, ◌++◌, map, All, Option, IfSome, if◌then◌else◌}
use Rattle.std.specs.List.{flat_map, range_with_len}
use Rattle.std.specs.List.Sorted.{IsPermutation}
use Rattle.outside.specs.Tree.{Files}
use Rattle.ring_core.specs.declared.events.Event.{Event}
use Rattle.entry_pages.specs.declared.entries.Entry.{Entry}
use Rattle.circle_run.specs.Balance.{Log}
use Rattle.circle_run.specs.Progress.{Rises, Thousands, newest}
use Rattle.circle_run.specs.Traced.{IsTraced, share_in}
use Rattle.circle_run.specs.declared.outcomes.Share.{Share}
use Rattle.circle_run.specs.declared.settings.Options.{Options}
use Rattle.tree_walk.specs.Walk.{answers_in, children_of, paths_of}

-- the strings that all ranks handled, one rank after the other
abbrev pub whole_log : List Log → Log
whole_log logs = flat_map (λ log. log) logs

-- the events of a traced run of the starts. In it the ranks handle the paths of the list, each once, and push for each the
-- children with which the recursive walk goes on
pub record IsTracedWalk (files : Files) (o : Options) (starts : List (List ℕ)) (list : List Entry) (events : List Event) : Type 0 where
  pub logs : List Log
  pub traced : IsTraced o starts logs events
  pub handled : IsPermutation (map (λ x. x.0) (whole_log logs)) (paths_of list)
  pub pushed : All (λ x. x.1 ≡ children_of (answers_in list x.0) files x.0) (whole_log logs)

-- the ranks made a whole run of the starts. The shares are its counts, and with a trace its events are kept. In it the ranks
-- handle the paths of the list, each once. If the files tell their tree, they push for each the children with which the recursive
-- walk goes on
pub record WasWalked (tree : Option Files) (o : Options) (starts : List (List ℕ)) (list : List Entry) (shares : List Share) (kept : List Event) : Type 0 where
  pub events : List Event
  pub logs : List Log
  pub traced : IsTraced o starts logs events
  pub handled : IsPermutation (map (λ x. x.0) (whole_log logs)) (paths_of list)
  pub pushed : IfSome tree (λ files. All (λ x. x.1 ≡ children_of (answers_in list x.0) files x.0) (whole_log logs))
  pub counts : shares ≡ map (share_in events) (range_with_len 0 o.ranks)
  pub told : kept ≡ (if o.trace then events else [])

-- the numbers of progress of so many ranks that find so many entries. They never fall, each but the last is at least 1,000 above
-- the one before it, and the last is the number of entries. Of one rank the others are the thousands up to it
pub record IsProgressTo (entries ranks : ℕ) (numbers : List ℕ) : Type 0 where
  pub front : List ℕ
  pub are : numbers ≡ front ++ entries ∷ []
  pub rises : Rises 0 front
  pub within : newest 0 front ≤ entries
  pub alone : ranks ≡ 1 → Thousands 0 front × (entries < newest 0 front + 1000)
