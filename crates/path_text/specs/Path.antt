-- The form of a path, and why a text is refused as a path.
use Rattle.std.specs.Prelude.{ℕ, ◌+◌, Bool, not, ◌&&◌, List, [], ◌∷◌, ◌++◌, length, drop, if◌then◌else◌, ◌==◌, nat_lt, nat_le, Option, Some, None, is_none}
use Rattle.std.specs.List.{slice_split, list_any, list_all, before_last, after_last}
use Rattle.path_text.specs.declared.errors.PathError.{PathError}
use Rattle.path_text.specs.declared.errors.PathError.TheVariants.{NotAbsolute, EmptyName, DotName, Nul, TooLong}

abbrev pub is_slash : ℕ → Bool
is_slash b = b == 47

-- why these bytes, which hold no `/`, are not a name
abbrev pub name_fault : List ℕ → Option PathError
name_fault name =
    if length name == 0 then Some EmptyName
    else if nat_le (length name) 2 && list_all (λ b. b == 46) name then Some DotName
    else if list_any (λ b. b == 0) name then Some Nul
    else None

-- bytes that can be a name
abbrev pub is_name : List ℕ → Bool
is_name name = not (list_any is_slash name) && is_none (name_fault name)

-- the fault of the first bad name from the left
abbrev pub first_fault : List (List ℕ) → Option PathError
first_fault [] = None
first_fault (name ∷ names) = if is_none (name_fault name) then first_fault names else name_fault name

-- the names of a path other than `/`
abbrev pub names_of : List ℕ → List (List ℕ)
names_of path = slice_split is_slash (drop 1 path)

-- why a text is refused as a path; `None` if it is one
abbrev pub refusal : List ℕ → Option PathError
refusal [] = Some NotAbsolute
refusal (b ∷ bytes) =
    if not (is_slash b) then Some NotAbsolute
    else if nat_lt 4095 (length bytes + 1) then Some TooLong
    else if length bytes == 0 then None
    else first_fault (slice_split is_slash bytes)

-- the path of a child
abbrev pub joined : List ℕ → List ℕ → List ℕ
joined path name = if length path == 1 then path ++ name else path ++ 47 ∷ name

-- the parent of a path other than `/`: all before its last name
abbrev pub parent_of : List ℕ → List ℕ
parent_of path = let before = before_last is_slash path in if length before == 0 then 47 ∷ [] else before

-- the last name, which is empty for `/`
abbrev pub base_of : List ℕ → List ℕ
base_of path = after_last is_slash path

-- how many names a path has
abbrev pub level_of : List ℕ → ℕ
level_of path = if length path == 1 then 0 else length (names_of path)
