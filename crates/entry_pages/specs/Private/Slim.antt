-- A head as it is kept, in few bytes. The two numbers that are mostly 0 are in a list of their own, and the targets of links in one text.
-- Our own.
use Rattle.std.specs.Prelude.{◌≡◌, ℕ, ◌≤◌, ◌==◌, ◌&&◌, ◌||◌, not, Bool, true, false, List, [], ◌∷◌, length, map, take, drop}
use Rattle.std.specs.Prelude.{Option, Some, None, is_some, is_none, if◌then◌else◌}
use Rattle.std.specs.List.{flat_map, list_all}
use Rattle.outside.specs.declared.trees.Kind.{Kind}
use Rattle.outside.specs.declared.trees.Kind.TheVariants as kind
use Rattle.outside.specs.declared.trees.Stat.{Stat}
use Rattle.entry_pages.specs.Pack.{Head}
use Rattle.entry_pages.specs.declared.heads.Head as kept
use Rattle.outside.specs.Links.{link_refusal}
use Rattle.std.specs.Str.{is_utf8}
use Rattle.entry_pages.specs.declared.slims.Slim.{Slim}
use Rattle.entry_pages.specs.declared.slims.Odd.{Odd}
use Rattle.entry_pages.specs.declared.slims.Shown.{Shown}
use Rattle.entry_pages.specs.declared.slims.Shown.TheVariants as shown
use Rattle.entry_pages.specs.Entries.{size_by}
use Rattle.entry_pages.specs.Private.Kept.{AreStarts}

abbrev pub kind_shown : Kind → Shown
kind_shown kind.File = shown.File
kind_shown kind.Dir = shown.Dir
kind_shown kind.Link = shown.Link
kind_shown kind.Other = shown.Other

abbrev pub shown_by : Option Stat → Shown
shown_by None = shown.Nothing
shown_by (Some stat) = kind_shown stat.kind

abbrev pub seconds_or : Option ℕ → ℕ
seconds_or None = 0
seconds_or (Some seconds) = seconds

abbrev pub time_or : Option Stat → ℕ
time_or None = 0
time_or (Some stat) = seconds_or stat.mtime

abbrev pub is_timed : Option Stat → Bool
is_timed None = false
is_timed (Some stat) = is_some stat.mtime

-- the bytes of a target, of which there is one at least
abbrev pub target_bytes : Option (List ℕ) → List ℕ
target_bytes None = []
target_bytes (Some target) = target

abbrev pub text_by : Head → List ℕ
text_by h = target_bytes h.target

abbrev pub text_len : Head → ℕ
text_len h = length (text_by h)

-- a target is a link's text
abbrev pub is_text : Option (List ℕ) → Bool
is_text None = true
is_text (Some target) = is_none (link_refusal target) && is_utf8 target

-- whether there is a target, or one of the numbers that are mostly 0 is another
abbrev pub is_odd : Head → Bool
is_odd h = is_some h.target || not (h.unnamed == 0 && h.far == 0)

abbrev pub slim_by : Head → Slim
slim_by h = record {
  size = size_by h.stat;
  mtime = time_or h.stat;
  shared = h.shared;
  rest = h.rest;
  shown = shown_by h.stat;
  timed = is_timed h.stat;
  mark = h.mark;
  odd = is_odd h;
}

abbrev pub odd_by : Head → Odd
odd_by h = record { unnamed = h.unnamed; far = h.far; target = text_len h }

abbrev pub odds_by : Head → List Odd
odds_by h = if is_odd h then odd_by h ∷ [] else []

abbrev pub odd_count : Head → ℕ
odd_count h = length (odds_by h)

-- the head of its kept parts
abbrev pub stat_shown : Shown → ℕ → Option ℕ → Option Stat
stat_shown shown.Nothing size time = None
stat_shown shown.File size time = Some (record { kind = kind.File; size = size; mtime = time })
stat_shown shown.Dir size time = Some (record { kind = kind.Dir; size = size; mtime = time })
stat_shown shown.Link size time = Some (record { kind = kind.Link; size = size; mtime = time })
stat_shown shown.Other size time = Some (record { kind = kind.Other; size = size; mtime = time })

-- a target of a number of bytes, which come first
abbrev pub target_by : ℕ → List ℕ → Option (List ℕ)
target_by n texts = if n == 0 then None else Some (take n texts)

-- the parts that are kept beside the texts, and a target
abbrev pub with_text : kept.Head → Option (List ℕ) → Head
with_text h target = record { stat = h.stat; unnamed = h.unnamed; far = h.far; shared = h.shared; rest = h.rest; mark = h.mark; target = target }

abbrev pub told : Slim → Odd → kept.Head
told s o = record {
  stat = stat_shown s.shown s.size (if s.timed then Some s.mtime else None);
  unnamed = o.unnamed;
  far = o.far;
  shared = s.shared;
  rest = s.rest;
  mark = s.mark;
}

abbrev pub head_told : Slim → Odd → List ℕ → Head
head_told s o texts = with_text (told s o) (target_by o.target texts)

abbrev pub first_odd : Bool → List Odd → Odd
first_odd false odds = record { unnamed = 0; far = 0; target = 0 }
first_odd true [] = record { unnamed = 0; far = 0; target = 0 }
first_odd true (o ∷ odds) = o

abbrev pub odds_after : Bool → List Odd → List Odd
odds_after false odds = odds
odds_after true odds = drop 1 odds

abbrev pub heads_of : List Slim → List Odd → List ℕ → List Head
heads_of [] odds texts = []
heads_of (s ∷ slims) odds texts =
    head_told s (first_odd s.odd odds) texts ∷ heads_of slims (odds_after s.odd odds) (drop (first_odd s.odd odds).target texts)

-- the kept parts of heads, and where the odd ones and the targets of each page begin
pub record IsSlim (ss : List Slim) (os : List Odd) (starts ts begins : List ℕ) (hs : List Head) : Type 0 where
  pub slims : map slim_by hs ≡ ss
  pub odds : flat_map odds_by hs ≡ os
  pub odds_begin : AreStarts odd_count starts hs
  pub texts : flat_map text_by hs ≡ ts
  pub texts_begin : AreStarts text_len begins hs
  pub valid : list_all (λ h. is_text h.target) hs ≡ true

-- the state after some heads, and the odd ones and the bytes of targets among them
pub record IsLead (ss : List Slim) (os : List Odd) (ts : List ℕ) (passed gone at : ℕ) (hs : List Head) : Type 0 where
  pub slims : map slim_by hs ≡ ss
  pub odds : flat_map odds_by (drop passed hs) ≡ drop gone os
  pub texts : flat_map text_by (drop passed hs) ≡ drop at ts
  pub within : passed ≤ length hs
  pub inside : gone ≤ length os
  pub room : at ≤ length ts
  pub valid : list_all (λ h. is_text h.target) hs ≡ true
