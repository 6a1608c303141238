-- Bytes, above all those of a path, written on one line of printable text, and such a text read. Our own.
use Rattle.std.specs.Prelude.{◌≡◌, ℕ, ◌≤◌, ◌+◌, ◌-◌, ◌*◌, ◌/◌, ◌%◌, Bool, not, ◌&&◌, List, [], ◌∷◌, length, drop, if◌then◌else◌, nat_lt, nat_eq, ◌==◌}
use Rattle.std.specs.Prelude.{◌||◌, slice_index, Option, Some, None, Result, Ok, Err}
use Rattle.std.specs.List.{flat_map, starts_with}
use Rattle.path_text.specs.declared.errors.PathError.{PathError}
use Rattle.path_text.specs.declared.errors.EscapeError.{EscapeError}
use Rattle.path_text.specs.declared.errors.EscapeError.TheVariants.{BadEscape, Path}
use Rattle.path_text.specs.Path.{refusal}

-- an upper-case hexadecimal digit
abbrev pub hex_digit : ℕ → ℕ
hex_digit n = if nat_lt n 10 then 48 + n else 55 + n

-- a byte that is written as an escape: below a space, the byte 0x7F or the backslash
abbrev pub is_escaped : ℕ → Bool
is_escaped b = nat_lt b 32 || (b == 127 || b == 92)

-- a byte as it is written: itself, or `\x` and its two digits
abbrev pub escaped : ℕ → List ℕ
escaped b = if is_escaped b then 92 ∷ 120 ∷ hex_digit (b / 16) ∷ hex_digit (b % 16) ∷ [] else b ∷ []

-- a path as it is written
abbrev pub escape : List ℕ → List ℕ
escape path = flat_map escaped path

-- the value of an upper-case hexadecimal digit
abbrev pub hex_value : ℕ → ℕ
hex_value digit = if nat_lt digit 58 then digit - 48 else digit - 55

-- the byte that the two digits after `\x` write
abbrev pub told_byte : List ℕ → ℕ
told_byte text = 16 * hex_value (slice_index text 2) + hex_value (slice_index text 3)

-- a text begins with the escape of a byte
abbrev pub begins_escape : List ℕ → Bool
begins_escape text = is_escaped (told_byte text) && starts_with nat_eq text (escaped (told_byte text))

-- the number of bytes before the first bad one, which is raw and must be escaped, or is a backslash that begins no escape
abbrev pub good_len : List ℕ → ℕ
good_len [] = 0
good_len (b ∷ text) = if is_escaped b && not (begins_escape (b ∷ text)) then 0 else good_len text + 1

-- the bytes that a text without a bad byte means: each backslash and the three bytes after it are one byte
abbrev pub unescaped : List ℕ → List ℕ
unescaped [] = []
unescaped (b ∷ text) = if b == 92 then told_byte (b ∷ text) ∷ drop 3 (unescaped text) else b ∷ unescaped text

-- bytes as a path, if they are not refused
abbrev pub path_of : Option PathError → List ℕ → Result (List ℕ) EscapeError
path_of None bytes = Ok bytes
path_of (Some fault) bytes = Err (Path fault)

-- the path that a text is read as, or why it is refused
abbrev pub reading : List ℕ → Result (List ℕ) EscapeError
reading text =
    if nat_lt (good_len text) (length text) then Err (BadEscape (good_len text))
    else path_of (refusal (unescaped text)) (unescaped text)

-- the text written for some bytes is read as them; the bytes that a good text means are written as that text
pub record UnescapingUndoesEscaping : Type 0 where
  pub within : (text : List ℕ) → good_len text ≤ length text
  pub good : (bytes : List ℕ) → good_len (escape bytes) ≡ length (escape bytes)
  pub back : (bytes : List ℕ) → unescaped (escape bytes) ≡ bytes
  pub one_spelling : (text : List ℕ) → good_len text ≡ length text → escape (unescaped text) ≡ text

-- reading undoes writing, and a path is read from one text alone
pub record ReadingUndoesWriting : Type 0 where
  pub back : (path : List ℕ) → refusal path ≡ None → reading (escape path) ≡ Ok path
  pub one_spelling : (text path : List ℕ) → reading text ≡ Ok path → text ≡ escape path
