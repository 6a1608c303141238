-- The files of a checkpoint in a folder: one for each rank. Our own, after libcircle's checkpoint (SC 2012).
use Rattle.std.specs.Prelude.{◌≡◌, ◌⊎◌, ℕ, ◌<◌, ◌≤◌, true, false, List, [], ◌++◌, length, slice_index_or, Option, Some, None, IfSome, nat_eq, codes}
use Rattle.std.specs.Cmp.Lexicographic.{pointwise}
use Rattle.std.specs.FinMap.{get}
use Rattle.std.specs.Fmt.{decimal}
use Rattle.path_text.specs.Path.{joined}
use Rattle.outside.specs.Tree.{Files, is_file}
use Rattle.outside.specs.Count.{RoseBy}
use Rattle.outside.specs.Whole.{HoldsFile, can_save}
use Rattle.circle_lists.specs.declared.errors.ListsError.{ListsError}
use Rattle.circle_lists.specs.declared.errors.ListsError.TheVariants as error
use Rattle.circle_lists.specs.Spelling.{Spells, IsDamaged}

-- the name of a rank's file, and its path in the folder
abbrev pub file_name : ℕ → List ℕ
file_name rank = codes "circle" ++ (decimal rank ++ codes ".txt")

abbrev pub file_path : List ℕ → ℕ → List ℕ
file_path dir rank = joined dir (file_name rank)

-- this path is at most as long as a path may be
abbrev pub Fits : List ℕ → ℕ → Type 0
Fits dir rank = length (file_path dir rank) ≤ 4095

-- the paths of the first k files fit
abbrev pub AllFit : List ℕ → ℕ → Type 0
AllFit dir k = (rank : ℕ) → rank < k → Fits dir rank

-- ---- the contents of the files

-- the rank's file holds the rank's list
pub record HoldsList (dir : List ℕ) (rank ranks : ℕ) (paths : List (List ℕ)) (files : Files) : Type 0 where
  pub bytes : List ℕ
  pub file : HoldsFile bytes (get files (file_path dir rank))
  pub spells : Spells bytes rank ranks paths

-- the files of the first k ranks hold their lists
abbrev pub HoldFirst : ℕ → List ℕ → ℕ → List (List (List ℕ)) → Files → Type 0
HoldFirst k dir ranks lists files = (rank : ℕ) → rank < k → HoldsList dir rank ranks (slice_index_or lists rank []) files

-- the files of all ranks hold their lists
abbrev pub HoldLists : List ℕ → List (List (List ℕ)) → Files → Type 0
HoldLists dir lists files = HoldFirst (length lists) dir (length lists) lists files

-- reading gives the lists that were written: the files in a folder hold the lists of one checkpoint alone
abbrev pub ReadsBack : Type 0
ReadsBack = (dir : List ℕ) (lists others : List (List (List ℕ))) (files : Files) → 0 < length lists → 0 < length others → HoldLists dir lists files →
    HoldLists dir others files → lists ≡ others

-- ---- writing

-- every path but those of the ranks' files is as before
abbrev pub SameButFiles : List ℕ → ℕ → Files → Files → Type 0
SameButFiles dir ranks old new =
    (q : List ℕ) → ((rank : ℕ) → rank < ranks → pointwise nat_eq q (file_path dir rank) ≡ false) → get new q ≡ get old q

-- the rank's file can be written
pub record HasPlace (dir : List ℕ) (tree : Option Files) (rank : ℕ) : Type 0 where
  pub fits : Fits dir rank
  pub free : IfSome tree (λ files. can_save files (file_path dir rank) ≡ true)

-- the path is the folder's, since that of the rank's file would be too long
pub record HasTooLongName (dir : List ℕ) (rank : ℕ) (path : List ℕ) : Type 0 where
  pub folder : path ≡ dir
  pub long : 4095 < length (file_path dir rank)

-- no file can be at the path, which is that of the rank's file
pub record HasNoPlace (dir : List ℕ) (rank : ℕ) (tree : Option Files) (path : List ℕ) : Type 0 where
  pub named : path ≡ file_path dir rank
  pub fits : Fits dir rank
  pub taken : IfSome tree (λ files. can_save files (file_path dir rank) ≡ false)

-- the files failed at the path, which is that of the rank's file
pub record FailedAt (dir : List ℕ) (rank : ℕ) (path : List ℕ) (before after : ℕ) : Type 0 where
  pub named : path ≡ file_path dir rank
  pub fits : Fits dir rank
  pub counted : RoseBy 1 before after

-- why the rank's list is not written, if the files told this tree; the counts are those before and after
abbrev pub StopsWritingAt : List ℕ → ℕ → Option Files → ℕ → ℕ → ListsError → Type 0
StopsWritingAt dir rank tree before after (error.Failed path) = FailedAt dir rank path before after
StopsWritingAt dir rank tree before after error.OutOfMemory = Unit {0}
StopsWritingAt dir rank tree before after (error.Damaged path line) = ⊥
StopsWritingAt dir rank tree before after (error.NoFile path) = ⊥
StopsWritingAt dir rank tree before after (error.NoPlace path) = HasTooLongName dir rank path ⊎ HasNoPlace dir rank tree path

-- why not all lists are written: one of them is not written, and there is a place for those before it
pub record StopsWriting (dir : List ℕ) (ranks : ℕ) (tree : Option Files) (before after : ℕ) (why : ListsError) : Type 0 where
  pub rank : ℕ
  pub within : rank < ranks
  pub earlier : (lower : ℕ) → lower < rank → HasPlace dir tree lower
  pub stops : StopsWritingAt dir rank tree before after why

-- ---- reading

-- the rank's file is damaged at the line
pub record IsDamagedAt (dir : List ℕ) (rank : ℕ) (known : Option ℕ) (tree : Option Files) (path : List ℕ) (line : ℕ) : Type 0 where
  pub named : path ≡ file_path dir rank
  pub fits : Fits dir rank
  pub told : IfSome tree (λ files. (bytes : List ℕ) × HoldsFile bytes (get files (file_path dir rank)) × IsDamaged bytes rank known line)

-- no file is at the path, which is that of the rank's file
pub record IsAbsent (dir : List ℕ) (rank : ℕ) (tree : Option Files) (path : List ℕ) : Type 0 where
  pub named : path ≡ file_path dir rank
  pub fits : Fits dir rank
  pub told : IfSome tree (λ files. is_file (get files (file_path dir rank)) ≡ false)

-- why the rank's list is not read
abbrev pub StopsReadingAt : List ℕ → ℕ → Option ℕ → Option Files → ℕ → ℕ → ListsError → Type 0
StopsReadingAt dir rank known tree before after (error.Failed path) = FailedAt dir rank path before after
StopsReadingAt dir rank known tree before after error.OutOfMemory = Unit {0}
StopsReadingAt dir rank known tree before after (error.Damaged path line) = IsDamagedAt dir rank known tree path line
StopsReadingAt dir rank known tree before after (error.NoFile path) = HasTooLongName dir rank path ⊎ IsAbsent dir rank tree path
StopsReadingAt dir rank known tree before after (error.NoPlace path) = ⊥

-- the files of the lower ranks hold lists of a checkpoint of this number of ranks. Before the first file, the number is not known
abbrev pub Reached : List ℕ → ℕ → Option ℕ → Option Files → Type 0
Reached dir rank None tree = rank ≡ 0
Reached dir rank (Some ranks) tree =
    (0 < rank) × (rank < ranks) × AllFit dir rank × IfSome tree (λ files. (lists : List (List (List ℕ))) × HoldFirst rank dir ranks lists files)

-- why not all lists are read: one of them is not read, and those before it are
pub record StopsReading (dir : List ℕ) (tree : Option Files) (before after : ℕ) (why : ListsError) : Type 0 where
  pub rank : ℕ
  pub known : Option ℕ
  pub reached : Reached dir rank known tree
  pub stops : StopsReadingAt dir rank known tree before after why
