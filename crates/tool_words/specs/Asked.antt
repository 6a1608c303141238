-- What a command line asks for: a record a report. Our own.
use Rattle.std.specs.Prelude.{ℕ, Bool, List, [], Option, Some, None}
use Rattle.find_tests.specs.declared.testing.Test.{Test}
use Rattle.flat_list.specs.declared.ordering.Field.{Field}
use Rattle.tool_words.specs.declared.commands.Command.{Command}
use Rattle.tool_words.specs.declared.commands.Command.TheVariants as command
use Rattle.tool_words.specs.declared.commands.Common.{Common}
use Rattle.tool_words.specs.declared.commands.Start.{Start}
use Rattle.tool_words.specs.declared.commands.Start.TheVariants.{Roots, Input, Restart}
use Rattle.tool_words.specs.declared.commands.Tests.{Tests}
use Rattle.tool_words.specs.declared.commands.Want.{Want}

-- where a list comes from: a walk of the trees at these paths, or the list in a file
pub data Origin : Type 0 where
  roots : List (List ℕ) → Origin
  input : List ℕ → Origin

-- what is chosen of a list: what meets all tests, and has changed after each of these paths
pub record Choice : Type 0 where
  pub tests : List Test
  pub newer : List (List ℕ)

-- what dwalk and dfind are asked for: how a walk is to go, where the list comes from, what is chosen of it, if not all, in which order it
-- is printed, and where it is saved
pub record ListAsked : Type 0 where
  pub common : Common
  pub start : Origin
  pub chosen : Option Choice
  pub sort : Option (Field × Bool)
  pub output : Option (List ℕ)

-- what a dwalk is asked for that stops, or goes on from where an earlier one stopped: how the walk is to go; the paths at which it begins, or
-- none where it goes on from the lists; after how many paths of one rank it stops; the folder of the lists; order; and where it is saved
pub record StageAsked : Type 0 where
  pub common : Common
  pub starts : Option (List (List ℕ))
  pub stop_after : Option ℕ
  pub lists : List ℕ
  pub sort : Option (Field × Bool)
  pub output : Option (List ℕ)

-- what dtest is asked for: how a walk is to go, how many nodes the made-up tree has, and what is chosen of them
pub record TestAsked : Type 0 where
  pub common : Common
  pub nodes : ℕ
  pub choice : Choice

-- what dcmp is asked for: how each of the two walks is to go, the source and the destination, and what is saved where, in the order of the words
pub record CompareAsked : Type 0 where
  pub common : Common
  pub left : List ℕ
  pub right : List ℕ
  pub wants : List Want

-- what dcp is asked for: how the walk is to go, what is copied, where to, and above how many bytes a file is copied by ranges, if any is
pub record CopyAsked : Type 0 where
  pub common : Common
  pub sources : List (List ℕ)
  pub dest : List ℕ
  pub range : Option ℕ

-- what dsync is asked for: how each of the two walks is to go, the source, the destination that is to be made equal to it, and whether
-- entries that the destination alone has are to be removed
pub record SyncAsked : Type 0 where
  pub common : Common
  pub source : List ℕ
  pub dest : List ℕ
  pub delete : Bool

-- what ddup is asked for: how the walk is to go, and the paths below which files of equal content are looked for
pub record DupAsked : Type 0 where
  pub common : Common
  pub roots : List (List ℕ)

-- what drm is asked for: how the walk is to go, the paths from which it goes, what is chosen of it, and whether nothing is to be removed
pub record RemoveAsked : Type 0 where
  pub common : Common
  pub roots : List (List ℕ)
  pub choice : Choice
  pub dryrun : Bool

pub data Asked : Type 0 where
  list : ListAsked → Asked
  stage : StageAsked → Asked
  compare : CompareAsked → Asked
  copy : CopyAsked → Asked
  sync : SyncAsked → Asked
  dup : DupAsked → Asked
  remove : RemoveAsked → Asked
  test : TestAsked → Asked

-- where a list comes from; a walk that goes on has no paths of its own
abbrev pub start_in : Start → Origin
start_in (Roots paths) = roots paths.items
start_in (Input path) = input path
start_in Restart = roots []

-- where a walk begins, or none where it goes on from where an earlier one stopped
abbrev pub begin_in : Start → Option Origin
begin_in (Roots paths) = Some (roots paths.items)
begin_in (Input path) = Some (input path)
begin_in Restart = None

abbrev pub choice_in : Tests → Choice
choice_in tests = record { tests = tests.tests.items; newer = tests.newer.items }

-- all of a list
abbrev pub whole_by : Common → Origin → Option (Field × Bool) → Option (List ℕ) → Asked
whole_by common start sort output = list (record { common = common; start = start; chosen = None; sort = sort; output = output })

-- a walk that stops or goes on
abbrev pub stage_by : Common → Option (List (List ℕ)) → Option (Field × Bool) → Option (List ℕ) → Option ℕ → List ℕ → Asked
stage_by common starts sort output stop lists =
    stage (record { common = common; starts = starts; stop_after = stop; lists = lists; sort = sort; output = output })

-- what dwalk is asked for; words never ask for a stop, or to go on, without a folder of lists
abbrev pub walk_by : Common → Option Origin → Option (Field × Bool) → Option (List ℕ) → Option ℕ → Option (List ℕ) → Asked
walk_by common None sort output stop (Some lists) = stage_by common None sort output stop lists
walk_by common (Some (roots paths)) sort output (Some n) (Some lists) = stage_by common (Some paths) sort output (Some n) lists
walk_by common (Some start) sort output stop lists = whole_by common start sort output
walk_by common None sort output stop None = whole_by common (roots []) sort output

-- what a command asks for
abbrev pub asked_by : Command → Asked
asked_by (command.Walk common start sort output stop lists) = walk_by common (begin_in start) sort output stop lists
asked_by (command.Find common start tests sort output) =
    list (record { common = common; start = start_in start; chosen = Some (choice_in tests); sort = sort; output = output })
asked_by (command.Cmp common left right wants) = compare (record { common = common; left = left; right = right; wants = wants.items })
asked_by (command.Copy common sources dest range) = copy (record { common = common; sources = sources.items; dest = dest; range = range })
asked_by (command.Sync common source dest delete) = sync (record { common = common; source = source; dest = dest; delete = delete })
asked_by (command.Dup common paths) = dup (record { common = common; roots = paths.items })
asked_by (command.Remove common paths tests dryrun) = remove (record { common = common; roots = paths.items; choice = choice_in tests; dryrun = dryrun })
asked_by (command.Test common nodes tests) = test (record { common = common; nodes = nodes; choice = choice_in tests })
