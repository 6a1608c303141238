-- What is chosen of a list. After the tests of find and of mpiFileUtils' dfind.
use Rattle.std.specs.Prelude.{ℕ, List, [], ◌++◌, map, filter, Option, Some, None}
use Rattle.entry_pages.specs.declared.entries.Entry.{Entry}
use Rattle.find_tests.specs.declared.testing.Test.{Test}
use Rattle.find_tests.specs.declared.testing.Test.TheVariants as test
use Rattle.find_tests.specs.Tests.{is_selected}
use Rattle.path_looks.specs.declared.looks.Look.{Look}
use Rattle.path_looks.specs.declared.looks.Seen.{Seen}
use Rattle.path_looks.specs.declared.looks.Seen.TheVariants as seen
use Rattle.tool_words.specs.Asked.{Choice}

-- the paths that are looked at
abbrev pub newer_in : Option Choice → List (List ℕ)
newer_in None = []
newer_in (Some choice) = choice.newer

-- the tests that the words say
abbrev pub tests_in : Option Choice → Option (List Test)
tests_in None = None
tests_in (Some choice) = Some choice.tests

-- the test that a look gives: a change after that time. Where no time was told, nothing has changed after it
abbrev pub newer_than : Seen → Test
newer_than (seen.At mtime) = test.Newer mtime
newer_than seen.Absent = test.Newer None
newer_than seen.Failed = test.Newer None

-- what is chosen: all, or the entries that have a stat and meet every test
abbrev pub chosen_of : Option (List Test) → List Look → ℕ → List Entry → List Entry
chosen_of None looks now entries = entries
chosen_of (Some tests) looks now entries = filter (is_selected (tests ++ map (λ l. newer_than l.seen) looks) now) entries
