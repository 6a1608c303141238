-- Large files that are cut in spans, each of which is written on its own. Our own.
use Rattle.std.specs.Prelude.{◌≡◌, ℕ, ◌-◌, Bool, true, false, ◌&&◌, List, [], ◌∷◌, ◌++◌, replicate, if◌then◌else◌, ◌==◌, nat_eq, nat_lt}
use Rattle.std.specs.Prelude.{Option, Some, None}
use Rattle.std.specs.Option.{option_map}
use Rattle.std.specs.FinMap.{get}
use Rattle.std.specs.Cmp.Lexicographic.{pointwise}
use Rattle.outside.specs.Tree.{Files, Node, is_file, content}
use Rattle.outside.specs.Writes.{Area, Cut, all_but, under}
use Rattle.outside.specs.Lease.{in_tops}

-- each number is above the one before it
abbrev pub ascends_above : ℕ → List ℕ → Bool
ascends_above at [] = true
ascends_above at (cut ∷ cuts) = nat_lt at cut && ascends_above cut cuts

-- where a file can be cut: from 0 on, strictly ascending, at two places at least
abbrev pub are_cuts : List ℕ → Bool
are_cuts [] = false
are_cuts (first ∷ []) = false
are_cuts (first ∷ second ∷ cuts) = first == 0 && ascends_above first (second ∷ cuts)

-- the piece that a span shows: the path of its file, its start in the file, and its number of bytes
pub record Piece : Type 0 where
  pub path : List ℕ
  pub start : ℕ
  pub size : ℕ

-- a piece for each two neighbouring cuts
abbrev pub pieces_from : List ℕ → ℕ → List ℕ → List Piece
pieces_from path at [] = []
pieces_from path at (cut ∷ cuts) = record { path = path; start = at; size = cut - at } ∷ pieces_from path cut cuts

abbrev pub pieces : List ℕ → List ℕ → List Piece
pieces path [] = []
pieces path (first ∷ cuts) = pieces_from path first cuts

-- the zeros of a new span, if the files tell their tree
abbrev pub zeros_of : Option Files → Piece → Option (List ℕ)
zeros_of tree piece = option_map (λ _. replicate piece.size 0) tree

-- where the file at a path was cut, by the first of those that are out
abbrev pub cuts_at : List ℕ → List Cut → Option (List ℕ)
cuts_at path [] = None
cuts_at path (one ∷ cut) = if pointwise nat_eq one.path path then Some one.cuts else cuts_at path cut

-- without that one
abbrev pub without_cut : List ℕ → List Cut → List Cut
without_cut path [] = []
without_cut path (one ∷ cut) = if pointwise nat_eq one.path path then cut else one ∷ without_cut path cut

-- the area of a ground once a file is out in spans, after those that are out
abbrev pub area_cut : List ℕ → List ℕ → Area → Area
area_cut path cuts (all_but lent cut) = all_but lent (cut ++ record { path = path; cuts = cuts } ∷ [])
area_cut path cuts (under tops) = under tops

-- where the file at a path was cut that is out of a ground with this area
abbrev pub cuts_in : List ℕ → Area → Option (List ℕ)
cuts_in path (all_but lent cut) = cuts_at path cut
cuts_in path (under tops) = None

-- the area of a ground once that file is back
abbrev pub area_whole : List ℕ → Area → Area
area_whole path (all_but lent cut) = all_but lent (without_cut path cut)
area_whole path (under tops) = under tops

-- the node is an empty file
pub record IsEmptyFile (node : Option Node) : Type 0 where
  pub is_file : is_file node ≡ true
  pub empty : content node ≡ []

-- the bytes, or none if the span does not tell them
abbrev pub told_bytes : Option (List ℕ) → List ℕ
told_bytes None = []
told_bytes (Some bytes) = bytes

-- those of several spans, one after the other
abbrev pub joined_bytes : List (Option (List ℕ)) → List ℕ
joined_bytes [] = []
joined_bytes (one ∷ rest) = told_bytes one ++ joined_bytes rest

-- a file with these bytes is back at the path, and every path that is neither this one nor under it is as before
pub record IsRejoined (path bytes : List ℕ) (before after : Files) : Type 0 where
  pub is_file : is_file (get after path) ≡ true
  pub same : content (get after path) ≡ bytes
  pub rest : (q : List ℕ) → in_tops (path ∷ []) q ≡ false → get after q ≡ get before q
