-- When a test holds, and which entries are selected. Our own, after find and mpiFileUtils' dfind.
use Rattle.std.specs.Prelude.{ℕ, ◌-◌, ◌/◌, Bool, true, false, List, [], ◌∷◌, ◌==◌, nat_lt, if◌then◌else◌, Option, Some, None, Result, Ok, Err}
use Rattle.std.specs.List.{list_all}
use Rattle.path_text.specs.Path.{base_of}
use Rattle.outside.specs.declared.trees.Kind.TheVariants.{File, Dir, Link, Other}
use Rattle.outside.specs.declared.trees.Stat.{Stat}
use Rattle.entry_pages.specs.declared.entries.Entry.{Entry}
use Rattle.entry_pages.specs.Entries.{is_kind}
use Rattle.find_tests.specs.declared.bounds.Bound.{Bound}
use Rattle.find_tests.specs.declared.errors.TestError.{TestError}
use Rattle.find_tests.specs.declared.errors.TestError.TheVariants.{BadKind}
use Rattle.find_tests.specs.declared.testing.Test.{Test}
use Rattle.find_tests.specs.declared.testing.Test.TheVariants as test
use Rattle.find_tests.specs.declared.testing.TestName.{TestName}
use Rattle.find_tests.specs.declared.testing.TestName.TheVariants as name
use Rattle.find_tests.specs.Matching.{glob_matches}
use Rattle.find_tests.specs.Bounds.{is_within, bound_reading}

-- how many whole units of so many seconds passed since a time; none if the time is still to come
abbrev pub age : ℕ → ℕ → ℕ → ℕ
age unit now mtime = (now - mtime) / unit

-- a bound on the age, which does not hold of a path without a time
abbrev pub is_aged : Bound → ℕ → ℕ → Option ℕ → Bool
is_aged bound unit now None = false
is_aged bound unit now (Some mtime) = is_within bound (age unit now mtime)

-- the first time is above the second, and both are there
abbrev pub is_newer : Option ℕ → Option ℕ → Bool
is_newer (Some mtime) (Some than) = nat_lt than mtime
is_newer _ _ = false

-- whether a test holds of a path and its stat
abbrev pub holds : Test → List ℕ → Stat → ℕ → Bool
holds (test.Name glob) path stat now = glob_matches glob (base_of path)
holds (test.Path glob) path stat now = glob_matches glob path
holds (test.Kind kind) path stat now = is_kind kind stat.kind
holds (test.Size bound) path stat now = is_within bound stat.size
holds (test.Days bound) path stat now = is_aged bound 86400 now stat.mtime
holds (test.Minutes bound) path stat now = is_aged bound 60 now stat.mtime
holds (test.Newer than) path stat now = is_newer stat.mtime than

-- whether an entry has a stat and meets every test
abbrev pub meets_all : List Test → ℕ → List ℕ → Option Stat → Bool
meets_all tests now path None = false
meets_all tests now path (Some stat) = list_all (λ t. holds t path stat now) tests

abbrev pub is_selected : List Test → ℕ → Entry → Bool
is_selected tests now entry = meets_all tests now entry.path entry.stat

-- the kind that a letter says
abbrev pub kind_reading : List ℕ → Result Test TestError
kind_reading [] = Err BadKind
kind_reading (c ∷ []) =
    if c == 102 then Ok (test.Kind File)
    else if c == 100 then Ok (test.Kind Dir)
    else if c == 108 then Ok (test.Kind Link)
    else if c == 111 then Ok (test.Kind Other)
    else Err BadKind
kind_reading (c ∷ d ∷ rest) = Err BadKind

abbrev pub test_by : (Bound → Test) → Result Bound TestError → Result Test TestError
test_by made (Ok bound) = Ok (made bound)
test_by made (Err e) = Err e

-- the test that a name and a value say: any text is a glob, and a size alone has units
abbrev pub test_reading : TestName → List ℕ → Result Test TestError
test_reading name.Name value = Ok (test.Name value)
test_reading name.Path value = Ok (test.Path value)
test_reading name.Kind value = kind_reading value
test_reading name.Size value = test_by test.Size (bound_reading true value)
test_reading name.Days value = test_by test.Days (bound_reading false value)
test_reading name.Minutes value = test_by test.Minutes (bound_reading false value)

-- the names whose tests take memory
abbrev pub has_glob : TestName → Bool
has_glob name.Name = true
has_glob name.Path = true
has_glob _ = false
