-- The list file, in both versions, as a relation between bytes and lists of entries. It has whole lines, one for each entry, and in
-- version 2 one more for each target of a link. A list is written in a version (`SpellsAs`), and bytes are read in some version
-- (`Spells`). Our own.
use Rattle.std.specs.Prelude.{◌≡◌, ℕ, ◌+◌, ◌-◌, ◌<◌, ◌≤◌, ◌^◌, ◌&&◌, ◌||◌, Bool, true, false, List, [], ◌∷◌}
use Rattle.std.specs.Prelude.{◌++◌, length, map, take, Option, Some, None}
use Rattle.std.specs.Prelude.{IfSome, is_none, codes}
use Rattle.std.specs.List.{flat_map, AllByRecursion}
use Rattle.std.specs.List.Sorted.{IsStrictlySortedBy}
use Rattle.std.specs.Fmt.{decimal}
use Rattle.std.specs.Str.{IsUtf8}
use Rattle.path_text.specs.Path.{refusal}
use Rattle.path_text.specs.Order.{path_cmp}
use Rattle.path_text.specs.Escape.{escape}
use Rattle.outside.specs.declared.trees.Kind.{Kind}
use Rattle.outside.specs.declared.trees.Kind.TheVariants as kind
use Rattle.outside.specs.declared.trees.Stat.{Stat}
use Rattle.outside.specs.Links.{link_refusal}
use Rattle.whole_lines.specs.Lines.{line, lines_of, end_text}
use Rattle.entry_pages.specs.declared.entries.Entry.{Entry}
use Rattle.entry_pages.specs.declared.entries.Mark.{Mark}
use Rattle.entry_pages.specs.declared.entries.Mark.TheVariants as mark
use Rattle.flat_list.specs.declared.errors.CacheError.{CacheError}
use Rattle.flat_list.specs.declared.errors.CacheError.TheVariants as error
use Rattle.flat_list.specs.declared.versions.Version.{Version}
use Rattle.flat_list.specs.declared.versions.Version.TheVariants.{One, Two}
use Rattle.entry_pages.specs.Entries.{size_by, is_of, is_shaped}
use Rattle.flat_list.specs.Orders.{time_of}

-- the words of a line
abbrev pub kind_letter : Kind → ℕ
kind_letter kind.File = 102
kind_letter kind.Dir = 100
kind_letter kind.Link = 108
kind_letter kind.Other = 111

abbrev pub kind_by : Option Stat → Option Kind
kind_by None = None
kind_by (Some stat) = Some stat.kind

abbrev pub kind_word : Option Kind → List ℕ
kind_word None = 45 ∷ []
kind_word (Some k) = kind_letter k ∷ []

abbrev pub time_word : Option ℕ → List ℕ
time_word None = 45 ∷ []
time_word (Some seconds) = decimal seconds

abbrev pub mark_word : Mark → List ℕ
mark_word mark.Fine = codes "ok"
mark_word mark.StatFailed = codes "stat"
mark_word mark.ListFailed = codes "list"
mark_word mark.Gone = codes "gone"
mark_word mark.Changed = codes "changed"

-- the text of an entry: kind, size, time, mark, unnamed names, children too far, and the path, divided by single spaces
abbrev pub text_of : Entry → List ℕ
text_of e =
    kind_word (kind_by e.stat) ++ 32 ∷
    (decimal (size_by e.stat) ++ 32 ∷
    (time_word (time_of e.stat) ++ 32 ∷ (mark_word e.mark ++ 32 ∷ (decimal e.unnamed ++ 32 ∷ (decimal e.far ++ 32 ∷ escape e.path)))))

-- the first line's text, which names the version
abbrev pub header_text : Version → List ℕ
header_text One = codes "mfu list 1"
header_text Two = codes "mfu list 2"

-- the text of a target: `> ` and the target
abbrev pub target_text : List ℕ → List ℕ
target_text target = 62 ∷ 32 ∷ escape target

-- the line of a target, if there is one
abbrev pub target_lines : Option (List ℕ) → List (List ℕ)
target_lines None = []
target_lines (Some target) = line (target_text target) ∷ []

-- the lines of an entry: its own, and after it that of its target
abbrev pub lines_by : Entry → List (List ℕ)
lines_by e = line (text_of e) ∷ target_lines e.target

abbrev pub entry_lines : List Entry → List (List ℕ)
entry_lines entries = flat_map lines_by entries

-- all lines of a list: the header, those of each entry, and the end with the number of entries
abbrev pub lines_for : Version → List Entry → List (List ℕ)
lines_for v entries = line (header_text v) ∷ (entry_lines entries ++ line (end_text (length entries)) ∷ [])

-- a target that can be listed: a link's text in UTF-8
pub record IsTarget (target : List ℕ) : Type 0 where
  pub valid : link_refusal target ≡ None
  pub utf8 : IsUtf8 target

-- an entry that can be listed: a path in UTF-8, the shape that its mark asks for, and numbers of 64 bits
pub record IsEntry (e : Entry) : Type 0 where
  pub path : refusal e.path ≡ None
  pub utf8 : IsUtf8 e.path
  pub target : IfSome e.target IsTarget
  pub shape : is_shaped e ≡ true
  pub size : size_by e.stat < 2 ^ 64
  pub time : IfSome (time_of e.stat) (λ seconds. seconds < 2 ^ 64)
  pub unnamed : e.unnamed < 2 ^ 64
  pub far : e.far < 2 ^ 64

-- the marks that version 1 can have: only a directory can have changed
abbrev pub is_old : Mark → Option Stat → Bool
is_old mark.Fine stat = true
is_old mark.StatFailed stat = true
is_old mark.ListFailed stat = true
is_old mark.Gone stat = true
is_old mark.Changed stat = is_of kind.Dir stat

abbrev pub is_marked : Version → Mark → Option Stat → Bool
is_marked One m stat = is_old m stat
is_marked Two m stat = true

-- a version that has targets
abbrev pub is_new : Version → Bool
is_new One = false
is_new Two = true

-- an entry that a list file of this version can have
abbrev pub is_known : Version → Entry → Bool
is_known v e = (is_none e.target || is_new v) && is_marked v e.mark e.stat

abbrev pub IsKnown : Version → Entry → Type 0
IsKnown v e = is_known v e ≡ true

abbrev pub paths : List Entry → List (List ℕ)
paths entries = map (λ e. e.path) entries

-- entries that a list file can have: their paths ascend strictly in path order, and their number has 64 bits
pub record IsList (entries : List Entry) : Type 0 where
  pub count : length entries < 2 ^ 64
  pub each : AllByRecursion IsEntry entries
  pub ascend : IsStrictlySortedBy path_cmp (paths entries)

-- an entry may come after the others
abbrev pub Follows : List Entry → Entry → Type 0
Follows entries e = IsStrictlySortedBy path_cmp (paths (entries ++ e ∷ []))

-- the entries are written as these bytes, in this version
pub record SpellsAs (v : Version) (bytes : List ℕ) (entries : List Entry) : Type 0 where
  pub list : IsList entries
  pub known : AllByRecursion (IsKnown v) entries
  pub text : bytes ≡ flat_map (λ l. l) (lines_for v entries)

-- the bytes are read as these entries: they are their list file in some version
pub record Spells (bytes : List ℕ) (entries : List Entry) : Type 0 where
  pub version : Version
  pub spells : SpellsAs version bytes entries

-- the first n lines of the text are the first n of some list file of either version. If the text has fewer than n lines, they
-- are all lines of this file
pub record Begins (n : ℕ) (bytes : List ℕ) : Type 0 where
  pub version : Version
  pub entries : List Entry
  pub list : IsList entries
  pub known : AllByRecursion (IsKnown version) entries
  pub same : take n (lines_of bytes) ≡ take n (lines_for version entries)

-- line n is the first through which the text begins no list file. The line after the last of a text is its end
pub record IsDamaged (bytes : List ℕ) (n : ℕ) : Type 0 where
  pub first : 1 ≤ n
  pub before : Begins (n - 1) bytes
  pub through : Begins n bytes → ⊥

-- the most entries that a list may have
abbrev pub max_entries : ℕ
max_entries = 4194304

-- the text begins with a header and the lines of one entry more than a list may have
pub record IsTooLong (bytes : List ℕ) : Type 0 where
  pub version : Version
  pub entries : List Entry
  pub list : IsList entries
  pub known : AllByRecursion (IsKnown version) entries
  pub many : length entries ≡ max_entries + 1
  pub rest : List (List ℕ)
  pub text : lines_of bytes ≡ line (header_text version) ∷ (entry_lines entries ++ rest)

-- the text is damaged at line n, and no longer than a list may be
pub record IsRefused (bytes : List ℕ) (n : ℕ) : Type 0 where
  pub damaged : IsDamaged bytes n
  pub short : IsTooLong bytes → ⊥

-- why a text is refused as a list file
abbrev pub IsCause : List ℕ → CacheError → Type 0
IsCause bytes (error.Damaged n) = IsRefused bytes n
IsCause bytes error.TooMany = IsTooLong bytes
IsCause bytes error.OutOfMemory = Unit {0}

-- a list has one text of a version, a text is one list's, and none is a proper prefix of another
pub record SpellsOne : Type 0 where
  pub one_text : (v : Version) (a b : List ℕ) (entries : List Entry) → SpellsAs v a entries → SpellsAs v b entries → a ≡ b
  pub one_list : (a : List ℕ) (entries others : List Entry) → Spells a entries → Spells a others → entries ≡ others
  pub no_prefix : (a rest : List ℕ) (entries others : List Entry) → Spells a entries → Spells (a ++ rest) others → rest ≡ []

-- a text is damaged at one line at most, no list's text is, and it is too long only if the list is
pub record RefusesExactly : Type 0 where
  pub one_line : (a : List ℕ) (m n : ℕ) → IsDamaged a m → IsDamaged a n → m ≡ n
  pub no_damage : (a : List ℕ) (entries : List Entry) (n : ℕ) → Spells a entries → IsDamaged a n → ⊥
  pub long_list : (a : List ℕ) (entries : List Entry) → Spells a entries → IsTooLong a → max_entries < length entries
