-- What holds of all that words ask for: paths are valid, and numbers stand within the limits that a run takes. Our own.
use Rattle.std.specs.Prelude.{◌≡◌, ◌≢◌, ℕ, ◌<◌, ◌≤◌, ◌^◌, List, [], ◌∷◌, length, All, Ok, None, IfSome, true, false}
use Rattle.path_text.specs.Path.{refusal}
use Rattle.tool_words.specs.declared.commands.Common.{Common}
use Rattle.tool_words.specs.Asked.{Origin, roots, input, Choice, ListAsked, StageAsked, CompareAsked, CopyAsked, SyncAsked, DupAsked, RemoveAsked, TestAsked}
use Rattle.tool_words.specs.Asked.{Asked, list, stage, compare, copy, sync, dup, remove, test}
use Rattle.tool_words.specs.Words.{reading}

abbrev pub Valid : List ℕ → Type 0
Valid path = refusal path ≡ None

-- a path that is not `/`
abbrev pub Lower : List ℕ → Type 0
Lower path = Valid path × (length path ≢ 1)

-- the paths of a start: the roots, or the file
abbrev pub paths_in : Origin → List (List ℕ)
paths_in (roots paths) = paths
paths_in (input file) = file ∷ []

pub record CommonWithin (common : Common) : Type 0 where
  pub ranks : (1 ≤ common.ranks) × (common.ranks ≤ 64)
  pub hosts : (1 ≤ common.hosts) × (common.hosts ≤ 64)
  pub seed : common.seed < 2 ^ 64
  pub width : (2 ≤ common.width) × (common.width ≤ 64)
  -- a trace is of one host
  pub trace : common.trace ≡ true → common.hosts ≡ 1

abbrev pub ChoiceWithin : Choice → Type 0
ChoiceWithin choice = All Valid choice.newer

pub record WithinList (asked : ListAsked) : Type 0 where
  pub common : CommonWithin asked.common
  pub start : All Valid (paths_in asked.start)
  pub chosen : IfSome asked.chosen ChoiceWithin
  pub output : IfSome asked.output Valid

-- a walk stops after a path or more, and has no trace then
pub record WithinStage (asked : StageAsked) : Type 0 where
  pub common : CommonWithin asked.common
  pub starts : IfSome asked.starts (All Valid)
  pub stop : IfSome asked.stop_after (λ n. (1 ≤ n) × (n < 2 ^ 63) × (asked.common.trace ≡ false))
  pub lists : Valid asked.lists
  pub output : IfSome asked.output Valid

pub record WithinCompare (asked : CompareAsked) : Type 0 where
  pub common : CommonWithin asked.common
  pub left : Valid asked.left
  pub right : Valid asked.right
  pub files : All (λ want. Valid want.file) asked.wants

-- one source or more, and ranges of a byte or more
pub record WithinCopy (asked : CopyAsked) : Type 0 where
  pub common : CommonWithin asked.common
  pub sources : All Valid asked.sources
  pub dest : Valid asked.dest
  pub some : 1 ≤ length asked.sources
  pub range : IfSome asked.range (λ n. (1 ≤ n) × (n < 2 ^ 63))

pub record WithinSync (asked : SyncAsked) : Type 0 where
  pub common : CommonWithin asked.common
  pub source : Valid asked.source
  pub dest : Valid asked.dest

-- one root or more
pub record WithinDup (asked : DupAsked) : Type 0 where
  pub common : CommonWithin asked.common
  pub roots : All Valid asked.roots
  pub some : 1 ≤ length asked.roots

-- nothing is removed at `/`
pub record WithinRemove (asked : RemoveAsked) : Type 0 where
  pub common : CommonWithin asked.common
  pub roots : All Lower asked.roots
  pub choice : ChoiceWithin asked.choice

-- a made-up tree has 1 to 1,000,000 nodes
pub record WithinTest (asked : TestAsked) : Type 0 where
  pub common : CommonWithin asked.common
  pub nodes : (1 ≤ asked.nodes) × (asked.nodes ≤ 1000000)
  pub choice : ChoiceWithin asked.choice

abbrev pub Within : Asked → Type 0
Within (list asked) = WithinList asked
Within (stage asked) = WithinStage asked
Within (compare asked) = WithinCompare asked
Within (copy asked) = WithinCopy asked
Within (sync asked) = WithinSync asked
Within (dup asked) = WithinDup asked
Within (remove asked) = WithinRemove asked
Within (test asked) = WithinTest asked

abbrev pub WordsAskWithinLimits : Type 0
WordsAskWithinLimits = (words : List (List ℕ)) (asked : Asked) → reading words ≡ Ok asked → Within asked
