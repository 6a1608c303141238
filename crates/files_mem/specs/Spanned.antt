-- Spans of files in memory, and the file that a ground keeps for them. Our own.
use Rattle.std.specs.Prelude.{◌≡◌, ℕ, true, Bool, List, [], ◌∷◌, length, map, replicate, if◌then◌else◌, Option, Some, None}
use Rattle.std.specs.List.{sum_by}
use Rattle.std.specs.FinMap.{get}
use Rattle.outside.specs.Tree.{Files, is_file, content}
use Rattle.outside.specs.Parts.{IsPart}
use Rattle.outside.specs.Spans.{Piece, pieces, joined_bytes}

-- a span: the path of its file, its start there, its bytes, whether it tells them, whether its writes fail, and its count of faults
pub record Spanned : Type 0 where
  pub path : List ℕ
  pub start : ℕ
  pub bytes : List ℕ
  pub tells : Bool
  pub fails : Bool
  pub count : ℕ

abbrev pub piece_of : Spanned → Piece
piece_of span = record { path = span.path; start = span.start; size = length span.bytes }

-- the bytes that it tells
abbrev pub held_by : Spanned → Option (List ℕ)
held_by span = if span.tells then Some span.bytes else None

-- a new span of the piece, of zeros
abbrev pub blank : Bool → Bool → Piece → Spanned
blank tells fails piece =
    record { path = piece.path; start = piece.start; bytes = replicate piece.size 0; tells = tells; fails = fails; count = 0 }

-- the bytes of spans one after the other
abbrev pub bytes_of_all : List Spanned → List ℕ
bytes_of_all spans = joined_bytes (map (λ span. Some span.bytes) spans)

-- the file that waits for its spans is alone in the nodes
pub record IsCutOut (path : List ℕ) (own : List (List ℕ)) (files : Files) : Type 0 where
  pub alone : own ≡ path ∷ []
  pub part : IsPart (path ∷ []) files
  pub is_file : is_file (get files path) ≡ true
  pub empty : content (get files path) ≡ []

-- so many bytes are in all the pieces
abbrev pub whole_size : List ℕ → List ℕ → ℕ
whole_size path cuts = sum_by (λ piece. piece.size) (pieces path cuts)
