-- The tools and their options: how each option is written, and what its value sets. Names of options are those of mpiFileUtils' dwalk,
-- dfind, dcmp, dcp, dsync, ddup and drm and of libcircle, as far as these have them; `--range` is our own.
use Rattle.std.specs.Prelude.{ℕ, ◌-◌, ◌^◌, Bool, true, List, [], ◌∷◌, ◌++◌, false, if◌then◌else◌, codes, find, Option, Some, None}
use Rattle.std.specs.List.{flat_map}
use Rattle.std.specs.Option.{option_map}
use Rattle.circle_run.specs.declared.settings.Split.TheVariants.{Equal}
use Rattle.tool_words.specs.declared.commands.Common.{Common}
use Rattle.tool_words.specs.declared.commands.Want.{Want}
use Rattle.flat_list.specs.declared.ordering.Field.{Field}
use Rattle.find_tests.specs.declared.testing.Test.{Test}
use Rattle.find_tests.specs.declared.testing.TestName.TheVariants as name
use Rattle.tool_words.specs.declared.tables.Tool.{Tool}
use Rattle.tool_words.specs.declared.tables.Tool.TheVariants as tool
use Rattle.tool_words.specs.declared.tables.Group.{Group}
use Rattle.tool_words.specs.declared.tables.Group.TheVariants as group
use Rattle.tool_words.specs.declared.tables.OptionName.{OptionName}
use Rattle.tool_words.specs.declared.tables.OptionName.TheVariants as option
use Rattle.tool_words.specs.Value.{is, number_in, split_in, path_in, order_in, test_in, want_in}

abbrev pub tool_named : List ℕ → Option Tool
tool_named text =
    if is (codes "dwalk") text then Some tool.Walk
    else if is (codes "dfind") text then Some tool.Find
    else if is (codes "dcmp") text then Some tool.Cmp
    else if is (codes "dcp") text then Some tool.Copy
    else if is (codes "dsync") text then Some tool.Sync
    else if is (codes "ddup") text then Some tool.Dup
    else if is (codes "drm") text then Some tool.Remove
    else if is (codes "dtest") text then Some tool.Test
    else None

-- how an option is written
unfoldable pub text_of : OptionName → List ℕ
text_of option.Ranks = codes "--ranks"
text_of option.Hosts = codes "--hosts"
text_of option.Split = codes "--split"
text_of option.Seed = codes "--seed"
text_of option.Width = codes "--width"
text_of option.Trace = codes "--trace"
text_of option.Shares = codes "--shares"
text_of option.Progress = codes "--progress"
text_of option.Sort = codes "--sort"
text_of option.Input = codes "--input"
text_of option.Output = codes "--output"
text_of (option.Test name.Name) = codes "--name"
text_of (option.Test name.Path) = codes "--path"
text_of (option.Test name.Kind) = codes "--type"
text_of (option.Test name.Size) = codes "--size"
text_of (option.Test name.Days) = codes "--mtime"
text_of (option.Test name.Minutes) = codes "--mmin"
text_of option.Newer = codes "--newer"
text_of option.Want = codes "-o"
text_of option.Dryrun = codes "--dryrun"
text_of option.Delete = codes "--delete"
text_of option.Range = codes "--range"
text_of option.StopAfter = codes "--stop-after"
text_of option.Lists = codes "--lists"
text_of option.Restart = codes "--restart"

-- the options of a group: how a walk is to go; what is told of it; where a list comes from, in which order it is printed, and where it is
-- saved; the tests; what is saved of a comparison; whether entries of the destination alone are removed; whether nothing is removed; above
-- how many bytes a file is copied by ranges; and after how much a walk stops, where its lists are, and whether it goes on from those of an
-- earlier one
abbrev pub options_in : Group → List OptionName
options_in group.Common = option.Ranks ∷ option.Hosts ∷ option.Split ∷ option.Seed ∷ option.Width ∷ []
options_in group.Telling = option.Trace ∷ option.Shares ∷ option.Progress ∷ []
options_in group.Listing = option.Sort ∷ option.Input ∷ option.Output ∷ []
options_in group.Testing =
    option.Test name.Name ∷ option.Test name.Path ∷ option.Test name.Kind ∷ option.Test name.Size ∷ option.Test name.Days ∷ option.Test name.Minutes
    ∷ option.Newer ∷ []
options_in group.Comparing = option.Want ∷ []
options_in group.Deleting = option.Delete ∷ []
options_in group.Removing = option.Dryrun ∷ []
options_in group.Cutting = option.Range ∷ []
options_in group.Stopping = option.StopAfter ∷ option.Lists ∷ option.Restart ∷ []

-- the groups of options that a tool takes
abbrev pub groups_of : Tool → List Group
groups_of tool.Walk = group.Common ∷ group.Telling ∷ group.Listing ∷ group.Stopping ∷ []
groups_of tool.Find = group.Common ∷ group.Telling ∷ group.Listing ∷ group.Testing ∷ []
groups_of tool.Cmp = group.Common ∷ group.Comparing ∷ []
groups_of tool.Copy = group.Common ∷ group.Cutting ∷ []
groups_of tool.Sync = group.Common ∷ group.Deleting ∷ []
groups_of tool.Dup = group.Common ∷ []
groups_of tool.Remove = group.Common ∷ group.Testing ∷ group.Removing ∷ []
groups_of tool.Test = group.Common ∷ group.Telling ∷ group.Testing ∷ []

abbrev pub options_of : Tool → List OptionName
options_of tool = flat_map options_in (groups_of tool)

-- the option of the tool that is written so
abbrev pub option_named : Tool → List ℕ → Option OptionName
option_named tool text = find (λ o. is (text_of o) text) (options_of tool)

-- what stands where no option says otherwise
abbrev pub standard : Common
standard = record { ranks = 4; hosts = 1; split = Equal; seed = 0; width = 64; trace = false; shares = false; progress = false }

-- what options set: how a walk is to go, the order, the files, the tests, the paths of `--newer`, what is saved of a comparison, whether
-- nothing is to be removed, whether entries of the destination alone are to be removed, above how many bytes a file is copied by ranges,
-- after how many paths of one rank a walk stops, the folder of its lists, and whether it goes on from them
pub record Set : Type 0 where
  pub common : Common
  pub sort : Option (Field × Bool)
  pub input : Option (List ℕ)
  pub output : Option (List ℕ)
  pub tests : List Test
  pub newer : List (List ℕ)
  pub wants : List Want
  pub dryrun : Bool
  pub delete : Bool
  pub range : Option ℕ
  pub stop_after : Option ℕ
  pub lists : Option (List ℕ)
  pub restart : Bool

abbrev pub unset : Set
unset = record {
  common = standard;
  sort = None;
  input = None;
  output = None;
  tests = [];
  newer = [];
  wants = [];
  dryrun = false;
  delete = false;
  range = None;
  stop_after = None;
  lists = None;
  restart = false;
}

-- tests add up, and so do the paths of `--newer` and what is saved of a comparison; every other option is given once
abbrev pub adds_up : OptionName → Bool
adds_up (option.Test _) = true
adds_up option.Newer = true
adds_up option.Want = true
adds_up _ = false

-- what is set after an option with this text as its value, if the text is one; a flag has no value
abbrev pub set : OptionName → List ℕ → Set → Option Set
set option.Ranks text s = option_map (λ n. record s { common = record s.common { ranks = n } }) (number_in 1 64 text)
set option.Hosts text s = option_map (λ n. record s { common = record s.common { hosts = n } }) (number_in 1 64 text)
set option.Split text s = option_map (λ split. record s { common = record s.common { split = split } }) (split_in text)
set option.Seed text s = option_map (λ n. record s { common = record s.common { seed = n } }) (number_in 0 (2 ^ 64 - 1) text)
set option.Width text s = option_map (λ n. record s { common = record s.common { width = n } }) (number_in 2 64 text)
set option.Trace text s = None
set option.Shares text s = None
set option.Progress text s = None
set option.Sort text s = option_map (λ order. record s { sort = Some order }) (order_in text)
set option.Input text s = option_map (λ path. record s { input = Some path }) (path_in text)
set option.Output text s = option_map (λ path. record s { output = Some path }) (path_in text)
set (option.Test name) text s = option_map (λ test. record s { tests = s.tests ++ test ∷ [] }) (test_in name text)
set option.Newer text s = option_map (λ path. record s { newer = s.newer ++ path ∷ [] }) (path_in text)
set option.Want text s = option_map (λ want. record s { wants = s.wants ++ want ∷ [] }) (want_in text)
set option.Dryrun text s = None
set option.Delete text s = None
set option.Range text s = option_map (λ n. record s { range = Some n }) (number_in 1 (2 ^ 63 - 1) text)
set option.StopAfter text s = option_map (λ n. record s { stop_after = Some n }) (number_in 1 (2 ^ 63 - 1) text)
set option.Lists text s = option_map (λ path. record s { lists = Some path }) (path_in text)
set option.Restart text s = None

-- what is set after a flag; the other options have a value
abbrev pub raise : OptionName → Set → Option Set
raise option.Trace s = Some (record s { common = record s.common { trace = true } })
raise option.Shares s = Some (record s { common = record s.common { shares = true } })
raise option.Progress s = Some (record s { common = record s.common { progress = true } })
raise option.Dryrun s = Some (record s { dryrun = true })
raise option.Delete s = Some (record s { delete = true })
raise option.Restart s = Some (record s { restart = true })
raise _ s = None
