-- A buffer that is filled with the bytes of a file, piece by piece. Our own.
use Rattle.std.specs.Prelude.{◌≡◌, ℕ, ◌+◌, ◌<◌, ◌≤◌, true, List, length, take, drop, Option}
use Rattle.outside.specs.Asked.{Asks}
use Rattle.outside.specs.Tree.{Node, is_file, content}
use Rattle.outside.specs.declared.trees.ReadError.{ReadError}
use Rattle.outside.specs.declared.trees.ReadError.TheVariants as read
use Rattle.tree_cmp.specs.declared.reading.Missing.{Missing}
use Rattle.tree_cmp.specs.declared.reading.Missing.TheVariants as m
use Rattle.tree_cmp.specs.Readers.{ShowsFailure, ShowsChange}

-- why bytes are missed, by the refusal of a read
abbrev pub missing : ReadError → Missing
missing read.Failed = m.Failed
missing read.NotFile = m.Changed

-- the buffer has the bytes of the file from a place on
pub record Fills (node : Option Node) (at : ℕ) (buffer : List ℕ) : Type 0 where
  pub is_file : is_file node ≡ true
  pub inside : at + length buffer ≤ length (content node)
  pub same : buffer ≡ take (length buffer) (drop at (content node))

-- no file with so many bytes
abbrev pub IsShort : Option Node → ℕ → Type 0
IsShort node end = is_file node ≡ true → length (content node) < end

-- the file has so many bytes
pub record IsFileOf (node : Option Node) (bytes : ℕ) : Type 0 where
  pub is_file : is_file node ≡ true
  pub size : length (content node) ≡ bytes

-- the answer of a read of the path for which its bytes were missed
abbrev pub ShowsMissing : {S : Type 0} → Asks S → List ℕ → Missing → Type 0
ShowsMissing gives path m.Failed = ShowsFailure gives path
ShowsMissing gives path m.Changed = ShowsChange gives path
