-- How the text of a line of a list file is read, word by word. That this undoes the writing of `Spelling`, and reads no other text, is proved.
use Rattle.std.specs.Prelude.{◌≡◌, ◌≢◌, ◌<◌, ◌≤◌, ◌⊎◌, take, drop, nat_le, nat_eq, not, length, slice_index, ℕ, ◌^◌, Bool}
use Rattle.std.specs.Prelude.{true, ◌&&◌, ◌==◌, nat_lt, List, [], ◌∷◌, ◌++◌, if◌then◌else◌, Option, Some}
use Rattle.std.specs.Prelude.{◌-◌, slice_get, IfSome, None, is_none, Result, Ok, Err, codes}
use Rattle.std.specs.Str.{IsUtf8, is_utf8, bytes_eq}
use Rattle.std.specs.List.{list_all, starts_with}
use Rattle.std.specs.Ordering.{is_lt}
use Rattle.path_text.specs.Path.{refusal}
use Rattle.path_text.specs.Order.{path_cmp}
use Rattle.outside.specs.declared.trees.Kind.{Kind}
use Rattle.outside.specs.declared.trees.Kind.TheVariants as kind
use Rattle.outside.specs.declared.trees.Stat.{Stat}
use Rattle.entry_pages.specs.declared.entries.Entry.{Entry}
use Rattle.entry_pages.specs.declared.entries.Mark.{Mark}
use Rattle.entry_pages.specs.declared.entries.Mark.TheVariants as mark
use Rattle.flat_list.specs.declared.reading.Told.{Told}
use Rattle.whole_lines.specs.Words.{◌>>=◌, cut, number_of, word_at, path_from}
use Rattle.flat_list.specs.declared.versions.Version.{Version}
use Rattle.outside.specs.declared.links.LinkTextError.{LinkTextError}
use Rattle.outside.specs.Links.{link_reading}
use Rattle.entry_pages.specs.Entries.{size_by, is_sized, shape_by, has_target}
use Rattle.flat_list.specs.Orders.{time_of}
use Rattle.flat_list.specs.Spelling.{Follows, is_marked, is_new}

unfoldable pub time_from : List ℕ → Option (Option ℕ)
time_from word = if bytes_eq word (codes "-") then Some None else number_of word >>= λ n. Some (Some n)

unfoldable pub kind_from : List ℕ → Option (Option Kind)
kind_from word =
    if bytes_eq word (codes "-") then Some None
    else if bytes_eq word (codes "f") then Some (Some kind.File)
    else if bytes_eq word (codes "d") then Some (Some kind.Dir)
    else if bytes_eq word (codes "l") then Some (Some kind.Link)
    else if bytes_eq word (codes "o") then Some (Some kind.Other)
    else None

unfoldable pub mark_from : List ℕ → Option Mark
mark_from word =
    if bytes_eq word (codes "ok") then Some mark.Fine
    else if bytes_eq word (codes "stat") then Some mark.StatFailed
    else if bytes_eq word (codes "list") then Some mark.ListFailed
    else if bytes_eq word (codes "gone") then Some mark.Gone
    else if bytes_eq word (codes "changed") then Some mark.Changed
    else None

-- without a kind there is no stat, and then no size and no time
unfoldable pub stat_from : Option Kind → ℕ → Option ℕ → Option (Option Stat)
stat_from None size time = if size == 0 && is_none time then Some None else None
stat_from (Some k) size time = Some (Some (record { kind = k; size = size; mtime = time }))

abbrev pub is_told : Version → Told → Bool
is_told v t = is_marked v t.mark t.stat && (is_sized t.stat && shape_by t.mark t.stat (t.unnamed == 0 && t.far == 0))

abbrev pub told_if : Version → Told → List ℕ → Option (Told × List ℕ)
told_if v told rest = if is_told v told then Some (told, rest) else None

-- all but the path, and the word of the path
unfoldable pub told_at : Version → List ℕ → Option (Told × List ℕ)
told_at v text = do
  kind ← word_at kind_from text
  size ← word_at number_of kind.1
  time ← word_at time_from size.1
  mark ← word_at mark_from time.1
  unnamed ← word_at number_of mark.1
  far ← word_at number_of unnamed.1
  stat ← stat_from kind.0 size.0 time.0
  told_if v (record { stat = stat; mark = mark.0; unnamed = unnamed.0; far = far.0 }) far.1

-- the entry of a line: a target, if there is one, is in the next line
abbrev pub told_entry : Told → List ℕ → Entry
told_entry told path = record { path = path; stat = told.stat; mark = told.mark; unnamed = told.unnamed; far = told.far; target = None }

-- the entry of a line's text
unfoldable pub entry_at : Version → List ℕ → Option Entry
entry_at v text = do
  told ← told_at v text
  path ← path_from told.1
  Some (told_entry told.0 path)

-- a path, if it comes after another
abbrev pub if_behind : List ℕ → List ℕ → Option (List ℕ)
if_behind before path = if is_lt (path_cmp before path) then Some path else None

-- the path of a word, if it comes after another
unfoldable pub path_behind : List ℕ → List ℕ → Option (List ℕ)
path_behind before word = path_from word >>= if_behind before

abbrev pub path_after : Option Entry → List ℕ → Option (List ℕ)
path_after None word = path_from word
path_after (Some before) word = path_behind before.path word

-- the entry of a text, if its path comes after that of another entry, if there is one
unfoldable pub entry_behind : Version → Option Entry → List ℕ → Option Entry
entry_behind v before text = do
  told ← told_at v text
  path ← path_after before told.1
  Some (told_entry told.0 path)

abbrev pub link_ok : Result (List ℕ) LinkTextError → Option (List ℕ)
link_ok (Ok target) = Some target
link_ok (Err e) = None

-- the target of a word
unfoldable pub target_from : List ℕ → Option (List ℕ)
target_from word = if is_utf8 word then link_ok (link_reading word) else None

-- the target of a line's text: it comes after `> `
unfoldable pub target_at : List ℕ → Option (List ℕ)
target_at text = if starts_with nat_eq text (codes "> ") then target_from (drop 2 text) else None

-- a target may come after an entry that has none yet
abbrev pub takes_target : Version → Entry → Bool
takes_target v e = is_new v && has_target e.mark e.stat

-- the target of the first line of a text, and the text after that line
abbrev pub target_and : Option (List ℕ) → List ℕ → Option (List ℕ × List ℕ)
target_and None rest = None
target_and (Some target) rest = Some (target, rest)

unfoldable pub target_line : List ℕ → Option (List ℕ × List ℕ)
target_line rest = cut 10 rest >>= λ parts. target_and (target_at parts.0) parts.1

-- the target of the first line of a text, if a target may follow the entry
abbrev pub target_behind : Version → Entry → List ℕ → Option (List ℕ × List ℕ)
target_behind v e rest = if takes_target v e then target_line rest else None

-- an entry with the target that was found after it, if there was one
abbrev pub with_target : Entry → Option (List ℕ × List ℕ) → Entry
with_target e None = e
with_target e (Some found) = record e { target = Some found.0 }

-- the text after an entry and its target
abbrev pub behind_target : List ℕ → Option (List ℕ × List ℕ) → List ℕ
behind_target rest None = rest
behind_target rest (Some found) = found.1

-- how many lines an entry and its target have
abbrev pub line_count : Option (List ℕ × List ℕ) → ℕ
line_count None = 1
line_count (Some found) = 2

-- the target that is found after the entry of a line's text, and the text after it
abbrev pub found_at : Version → List ℕ → List ℕ → Option (List ℕ × List ℕ)
found_at v text rest = entry_at v text >>= λ e. target_behind v e rest

-- no target that may belong to the last entry, if there is one, comes after it
abbrev pub IsSettled : Version → Option Entry → List ℕ → Type 0
IsSettled v None rest = Unit {0}
IsSettled v (Some e) rest = is_none e.target ≡ true → target_behind v e rest ≡ None

-- a byte that is printable ASCII and is itself
abbrev pub is_plain : ℕ → Bool
is_plain b = nat_le 32 b && (nat_lt b 127 && not (b == 92))

-- a path begins with some names, one at least
pub record IsFront (path names : List ℕ) : Type 0 where
  pub some : 1 < length names
  pub same : take (length names) path ≡ names
  pub ends : (length path ≡ length names) ⊎ (slice_index path (length names) ≡ 47)

-- a name that is neither empty nor `.` nor `..`, which its length or its first byte shows
abbrev pub IsPlainName : List ℕ → Type 0
IsPlainName name = (2 < length name) ⊎ ((0 < length name) × (slice_index name 0 ≢ 46))

-- a word is a path itself, and the path before it has all of it up to a place
pub record IsNear (before word : List ℕ) (at : ℕ) : Type 0 where
  pub inside : at ≤ length before
  pub within : at ≤ length word
  pub shared : take at before ≡ take at word
  pub path : refusal word ≡ None
  pub plain : list_all is_plain word ≡ true

-- the facts that the line of an entry shows
pub record IsWritten (e : Entry) : Type 0 where
  pub path : refusal e.path ≡ None
  pub utf8 : IsUtf8 e.path
  pub size : size_by e.stat < 2 ^ 64
  pub time : IfSome (time_of e.stat) (λ seconds. seconds < 2 ^ 64)
  pub unnamed : e.unnamed < 2 ^ 64
  pub far : e.far < 2 ^ 64

-- the last of some entries, if there is one
abbrev pub IsLast : Option Entry → List Entry → Type 0
IsLast last entries = slice_get entries (length entries - 1) ≡ last

-- the entry that was read is added after the others, with the target that was found after it
abbrev pub Adds : Option Entry → Option (List ℕ × List ℕ) → List Entry → List Entry → Type 0
Adds None found old new = ⊥
Adds (Some e) found old new = IsUtf8 e.path × (IfSome found (λ f. IsUtf8 f.0) × (Follows old e × (new ≡ old ++ with_target e found ∷ [])))

-- the entry that was read, if there is one, may not come after the others
abbrev pub NoneFollows : Option Entry → List Entry → Type 0
NoneFollows None old = Unit {0}
NoneFollows (Some e) old = Follows old e → ⊥
