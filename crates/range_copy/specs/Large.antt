-- One large file, copied by ranges, and the node at its target afterwards. Our own, after cp and mpiFileUtils' dcp.
use Rattle.std.specs.Prelude.{⊤, ◌≡◌, ℕ, Bool, true, false, not, ◌&&◌, List, [], ◌∷◌, length, map, Option, Some, None, is_some}
use Rattle.std.specs.FinMap.{get}
use Rattle.path_text.specs.Path.{refusal}
use Rattle.outside.specs.Lease.{kept}
use Rattle.outside.specs.Spans.{IsRejoined, are_cuts, joined_bytes}
use Rattle.outside.specs.Tree.{Files, IsTree, Node, content, is_file}
use Rattle.outside.specs.Writes.{SameBut, new_file}
use Rattle.range_copy.specs.Ranges.{end_of, ranges_of}
use Rattle.range_copy.specs.declared.came.Came.{Came}
use Rattle.range_copy.specs.declared.came.Came.TheVariants as came

-- a file is there, and it has so many bytes
pub record IsSource (path : List ℕ) (size : ℕ) (files : Files) : Type 0 where
  pub is_file : is_file (get files path) ≡ true
  pub size_is : length (content (get files path)) ≡ size

-- the node there is not a file
abbrev pub in_way : Option Node → Bool
in_way node = is_some node && not (is_file node)

-- a file with these bytes
pub record HasBytes (bytes : List ℕ) (node : Option Node) : Type 0 where
  pub is_file : is_file node ≡ true
  pub same : content node ≡ bytes

-- the node at the target of a file of these bytes, before its copy and after it. Of a file that failed nothing is said
abbrev pub IsLeft : List ℕ → (before after : Option Node) → Came → Type 0
IsLeft bytes before after came.Done = (in_way before ≡ false) × HasBytes bytes after
IsLeft bytes before after came.Conflict = (in_way before ≡ true) × (after ≡ before)
IsLeft bytes before after came.Failed = ⊤
IsLeft bytes before after came.Changed = ⊥

-- An empty file was lent in spans, and each comes back with its range of some bytes. Then the file has these bytes, and every other
-- path is as before
abbrev pub SpansComeBack : Type 0
SpansComeBack = (path cuts bytes : List ℕ) (before after : Files) → refusal path ≡ None → IsTree before → IsTree after →
    get before path ≡ Some (new_file []) → are_cuts cuts ≡ true → end_of cuts ≡ length bytes →
    IsRejoined path (joined_bytes (map (λ range. Some range) (ranges_of cuts bytes))) (kept (path ∷ []) before) after →
    HasBytes bytes (get after path) × SameBut path before after
