-- The file of one rank of a checkpoint, as a relation between bytes and lists of paths: whole lines, one for each path.
-- Our own, after libcircle's checkpoint (SC 2012), which has a file of strings for each rank.
use Rattle.std.specs.Prelude.{◌≡◌, ℕ, ◌-◌, ◌<◌, ◌≤◌, ◌^◌, List, [], ◌∷◌, ◌++◌, length, map, take, Option, Some, None, codes}
use Rattle.std.specs.List.{flat_map, AllByRecursion}
use Rattle.std.specs.Fmt.{decimal}
use Rattle.std.specs.Str.{IsUtf8}
use Rattle.path_text.specs.Path.{refusal}
use Rattle.path_text.specs.Escape.{escape}
use Rattle.whole_lines.specs.Lines.{line, lines_of, end_text}

-- a rank among this number of ranks, which is 64 at most
pub record IsRank (rank ranks : ℕ) : Type 0 where
  pub within : rank < ranks
  pub most : ranks ≤ 64

-- the first line's text: the version, the rank, and the number of ranks
abbrev pub head_text : ℕ → ℕ → List ℕ
head_text rank ranks = codes "circle 1 " ++ (decimal rank ++ 32 ∷ decimal ranks)

-- a path that a line can hold is valid UTF-8
pub record IsWritable (path : List ℕ) : Type 0 where
  pub valid : refusal path ≡ None
  pub utf8 : IsUtf8 path

-- a list that a file can hold: the number of its paths has 64 bits
pub record IsList (paths : List (List ℕ)) : Type 0 where
  pub count : length paths < 2 ^ 64
  pub each : AllByRecursion IsWritable paths

abbrev pub path_lines : List (List ℕ) → List (List ℕ)
path_lines paths = map (λ path. line (escape path)) paths

-- all lines: the head, one for each path, and the end with their number
abbrev pub lines_for : ℕ → ℕ → List (List ℕ) → List (List ℕ)
lines_for rank ranks paths = line (head_text rank ranks) ∷ (path_lines paths ++ line (end_text (length paths)) ∷ [])

-- the bytes are the file of the rank, whose list has these paths
pub record Spells (bytes : List ℕ) (rank ranks : ℕ) (paths : List (List ℕ)) : Type 0 where
  pub is_rank : IsRank rank ranks
  pub list : IsList paths
  pub text : bytes ≡ flat_map (λ l. l) (lines_for rank ranks paths)

-- the number of ranks is the known one, if one is known
abbrev pub Agrees : Option ℕ → ℕ → Type 0
Agrees None ranks = Unit {0}
Agrees (Some known) ranks = ranks ≡ known

-- the first n lines of the text are the first n of some file of the rank; if the text has fewer lines, they are all of this file
pub record Begins (n : ℕ) (bytes : List ℕ) (rank : ℕ) (known : Option ℕ) : Type 0 where
  pub ranks : ℕ
  pub paths : List (List ℕ)
  pub is_rank : IsRank rank ranks
  pub agrees : Agrees known ranks
  pub list : IsList paths
  pub same : take n (lines_of bytes) ≡ take n (lines_for rank ranks paths)

-- line n is the first line with which the text begins no file of the rank. The line after the last of a text is its end
pub record IsDamaged (bytes : List ℕ) (rank : ℕ) (known : Option ℕ) (n : ℕ) : Type 0 where
  pub first : 1 ≤ n
  pub before : Begins (n - 1) bytes rank known
  pub through : Begins n bytes rank known → ⊥

-- a list has one text; a text is that of one list, rank and number of ranks; no text is a proper prefix of another
pub record SpellsOne : Type 0 where
  pub one_text : (a b : List ℕ) (rank ranks : ℕ) (paths : List (List ℕ)) → Spells a rank ranks paths → Spells b rank ranks paths → a ≡ b
  pub one_list : (a : List ℕ) (rank ranks other others : ℕ) (paths more : List (List ℕ)) → Spells a rank ranks paths → Spells a other others more →
      (rank ≡ other) × (ranks ≡ others) × (paths ≡ more)
  pub no_prefix : (a rest : List ℕ) (rank ranks other others : ℕ) (paths more : List (List ℕ)) → Spells a rank ranks paths →
      Spells (a ++ rest) other others more → rest ≡ []

-- a text is damaged at one line at most, and a file of the rank at none
pub record DamagedOnce : Type 0 where
  pub one_line : (a : List ℕ) (rank : ℕ) (known : Option ℕ) (m n : ℕ) → IsDamaged a rank known m → IsDamaged a rank known n → m ≡ n
  pub no_damage : (a : List ℕ) (rank ranks : ℕ) (known : Option ℕ) (paths : List (List ℕ)) (n : ℕ) → Spells a rank ranks paths →
      Agrees known ranks → IsDamaged a rank known n → ⊥
