-- Path order: the bytes, with `/` before every other byte. Our own.
use Rattle.std.specs.Prelude.{◌≡◌, ◌≢◌, ◌⊎◌, ℕ, ◌+◌, Bool, false, ◌&&◌, ◌||◌, List, [], ◌∷◌, ◌++◌, length, map}
use Rattle.std.specs.Prelude.{if◌then◌else◌, ◌==◌, nat_eq, nat_lt, IsTrue, None}
use Rattle.std.specs.List.{starts_with, list_any}
use Rattle.std.specs.declared.cmp.Ordering.{Ordering}
use Rattle.std.specs.declared.cmp.Ordering.TheVariants.{Less}
use Rattle.std.specs.Cmp.Lexicographic.{slice_cmp, pointwise}
use Rattle.std.specs.Ordering.{on, nat_cmp}
use Rattle.path_text.specs.Path.{is_name, joined, refusal, parent_of}

-- the place of a byte in the order: `/` first, and then the bytes as they are
abbrev pub byte_rank : ℕ → ℕ
byte_rank b = if b == 47 then 0 else b + 1

-- path order: the first byte that differs decides; if none differs, the shorter path comes first
abbrev pub path_cmp : List ℕ → List ℕ → Ordering
path_cmp = slice_cmp (on byte_rank nat_cmp)

-- the front of a path: the bytes with which the paths under it begin
abbrev pub front : List ℕ → List ℕ
front path = if length path == 1 then path else path ++ 47 ∷ []

-- x is under y: one name or more follow those of y
abbrev pub is_under : List ℕ → List ℕ → Bool
is_under x y = starts_with nat_eq x (front y) && nat_lt (length (front y)) (length x)

-- x is y, or is under it
abbrev pub is_within : List ℕ → List ℕ → Bool
is_within x y = pointwise nat_eq x y || is_under x y

-- path order is preorder, with siblings in the order of their bytes
pub record IsPreorder : Type 0 where
  -- a path comes before all that is under it
  pub top_down : (x y : List ℕ) → IsTrue (is_under x y) → path_cmp y x ≡ Less
  -- of two children of a path the one with the lower name comes first, with all that is under it
  pub siblings : (p m n x : List ℕ) → IsTrue (is_name m) → IsTrue (is_name n) → slice_cmp nat_cmp m n ≡ Less → IsTrue (is_within x (joined p m)) →
      path_cmp x (joined p n) ≡ Less

-- in path order the paths under a path are contiguous, right after it
pub record UnderIsContiguous : Type 0 where
  -- a path that comes after a path and before one that is under it is under it too
  pub between : (u x z : List ℕ) → refusal u ≡ None → refusal x ≡ None → path_cmp u x ≡ Less → path_cmp x z ≡ Less → IsTrue (is_under z u) →
      IsTrue (is_under x u)
  -- a path under a path that is under another is under that one
  pub deeper : (x y u : List ℕ) → IsTrue (is_under x y) → IsTrue (is_under y u) → IsTrue (is_under x u)

-- of two paths that a third one is within, one is within the other
abbrev pub TopsAreNested : Type 0
TopsAreNested = (x a b : List ℕ) → refusal a ≡ None → refusal b ≡ None → IsTrue (is_within x a) → IsTrue (is_within x b) →
    IsTrue (is_within a b) ⊎ IsTrue (is_within b a)

-- the parent of a path is a path, and each but `/` is under its parent
pub record ParentIsOver : Type 0 where
  pub valid : (path : List ℕ) → refusal path ≡ None → refusal (parent_of path) ≡ None
  pub over : (path : List ℕ) → refusal path ≡ None → length path ≢ 1 → IsTrue (is_under path (parent_of path))

abbrev pub slash_as_zero : ℕ → ℕ
slash_as_zero b = if b == 47 then 0 else b

abbrev pub has_zero : List ℕ → Bool
has_zero text = list_any (λ b. b == 0) text

-- path order is the order of the bytes with `/` read as 0, which no path holds
abbrev pub ReadsSlashAsZero : Type 0
ReadsSlashAsZero = (x y : List ℕ) → has_zero x ≡ false → has_zero y ≡ false → path_cmp x y ≡ slice_cmp nat_cmp (map slash_as_zero x) (map slash_as_zero y)
