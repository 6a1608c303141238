-- The faults of names in printable text. Only private clauses cite them. Our own.
use Rattle.std.specs.Prelude.{ℕ, Bool, false, ◌&&◌, ◌||◌, List, [], ◌∷◌, length, if◌then◌else◌, ◌==◌, nat_le, nat_eq, Option, Some, None, is_none}
use Rattle.std.specs.List.{starts_with, list_all}
use Rattle.path_text.specs.declared.errors.PathError.{PathError}
use Rattle.path_text.specs.declared.errors.PathError.TheVariants.{EmptyName, DotName, Nul}

abbrev pub is_backslash : ℕ → Bool
is_backslash b = b == 92

-- a text begins with the escape of the byte 0
abbrev pub begins_nul : List ℕ → Bool
begins_nul text = starts_with nat_eq text (92 ∷ 120 ∷ 48 ∷ 48 ∷ [])

-- a text has the escape of the byte 0
abbrev pub tells_nul : List ℕ → Bool
tells_nul [] = false
tells_nul (b ∷ text) = begins_nul (b ∷ text) || tells_nul text

-- why the bytes that a text without `/` means are not a name
abbrev pub written_fault : List ℕ → Option PathError
written_fault name =
    if length name == 0 then Some EmptyName
    else if nat_le (length name) 2 && list_all (λ b. b == 46) name then Some DotName
    else if tells_nul name then Some Nul
    else None

-- the fault of the first bad name from the left
abbrev pub first_written : List (List ℕ) → Option PathError
first_written [] = None
first_written (name ∷ names) = if is_none (written_fault name) then first_written names else written_fault name
