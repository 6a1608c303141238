-- Rows and expressions worked out by hand. Our own.
use Rattle.std.specs.Prelude.{◌≡◌, ℕ, Bool, true, false, List, [], ◌∷◌, map, Option, Some, None, is_some, Ok, Err, codes}
use Rattle.outside.specs.declared.trees.Kind.{Kind}
use Rattle.outside.specs.declared.trees.Kind.TheVariants.{File, Dir, Link}
use Rattle.entry_pages.specs.declared.entries.Entry.{Entry}
use Rattle.entry_pages.specs.declared.entries.Mark.TheVariants.{Fine, Gone, ListFailed}
use Rattle.tree_cmp.specs.declared.rows.Exist.{Exist}
use Rattle.tree_cmp.specs.declared.rows.Exist.TheVariants.{OnlySrc, OnlyDest, Common as Both}
use Rattle.tree_cmp.specs.declared.rows.Two.{Two}
use Rattle.tree_cmp.specs.declared.rows.Two.TheVariants.{Common, Differ, NoValue}
use Rattle.tree_cmp.specs.declared.errors.ExprError.TheVariants.{BadField, BadState, Empty}
use Rattle.tree_cmp.specs.declared.conditions.Aspect.TheVariants as aspect
use Rattle.tree_cmp.specs.declared.conditions.Condition.TheVariants as condition
use Rattle.tree_cmp.specs.Sides.{Side, side, entry_at, is_shown}
use Rattle.tree_cmp.specs.Rows.{exist_of, kinds, sizes, is_read, unread, stat_at}
use Rattle.tree_cmp.specs.Expressions.{expr_reading}

abbrev pub entry : List ℕ → Kind → ℕ → Entry
entry path kind size = record { path = path; stat = Some (record { kind = kind; size = size; mtime = None }); mark = Fine; unnamed = 0; far = 0; target = None }

-- a link, where its text is known
abbrev pub link : Option (List ℕ) → Option Entry
link target = Some (record (entry (codes "/k") Link 0) { target = target })

-- a directory with a file of two bytes and an empty one, and another whose empty file has another name
abbrev pub source : Side
source = side (codes "/p") (entry (codes "/p") Dir 0 ∷ entry (codes "/p/x") File 2 ∷ entry (codes "/p/y") File 0 ∷ [])

abbrev pub dest : Side
dest = side (codes "/q") (entry (codes "/q") Dir 0 ∷ entry (codes "/q/x") File 2 ∷ entry (codes "/q/z") File 0 ∷ [])

-- the first one, of which the names were not told, and of which nothing was there
abbrev pub closed : Side
closed = side (codes "/q") (record (entry (codes "/q") Dir 0) { mark = ListFailed } ∷ [])

abbrev pub gone : Side
gone = side (codes "/q") (record { path = codes "/q"; stat = None; mark = Gone; unnamed = 0; far = 0; target = None } ∷ [])

-- which of some paths have rows
abbrev pub shown_in : Side → Side → List Bool
shown_in l r = map (is_shown l r) (codes "/" ∷ codes "/w" ∷ codes "/x" ∷ codes "/x/y" ∷ codes "/y" ∷ codes "/z" ∷ [])

-- what the row at a path tells before files are read, and whether they are
pub record Known : Type 0 where
  pub exist : Exist
  pub kind : Two
  pub size : Two
  pub read : Bool

abbrev pub known_at : Side → Side → List ℕ → Known
known_at l r p =
    let s = stat_at (entry_at l p) in
    let t = stat_at (entry_at r p) in
    record { exist = exist_of (is_some (entry_at l p)) (is_some (entry_at r p)); kind = kinds s t; size = sizes s t; read = is_read s t }

pub record WorkedRows : Type 0 where
  pub shown : shown_in source dest ≡ true ∷ false ∷ true ∷ false ∷ true ∷ true ∷ []
  pub tops : known_at source dest (codes "/") ≡ record { exist = Both; kind = Common; size = NoValue; read = false }
  pub files : known_at source dest (codes "/x") ≡ record { exist = Both; kind = Common; size = Common; read = true }
  pub source_alone : known_at source dest (codes "/y") ≡ record { exist = OnlySrc; kind = NoValue; size = NoValue; read = false }
  pub dest_alone : known_at source dest (codes "/z") ≡ record { exist = OnlyDest; kind = NoValue; size = NoValue; read = false }
  -- files without bytes are not read
  pub empty : known_at source source (codes "/y") ≡ record { exist = Both; kind = Common; size = Common; read = false }
  -- a directory whose names failed hides what is under it on both sides; what is gone is on no side
  pub hidden : shown_in source closed ≡ true ∷ false ∷ false ∷ false ∷ false ∷ false ∷ []
  pub absent : shown_in source gone ≡ true ∷ false ∷ true ∷ false ∷ true ∷ false ∷ []
  -- two links are compared by their texts, where both are known
  pub same_links : unread (link (Some (codes "a b"))) (link (Some (codes "a b"))) ≡ Common
  pub other_links : unread (link (Some (codes "a b"))) (link (Some (codes "c"))) ≡ Differ
  pub unknown_link : unread (link (Some (codes "a b"))) (link None) ≡ NoValue
  pub link_and_file : unread (link (Some (codes "a b"))) (Some (entry (codes "/k") File 0)) ≡ NoValue

pub record WorkedExpressions : Type 0 where
  pub two_terms : expr_reading (codes "EXIST=ONLY_SRC,SIZE=DIFFER@TYPE=COMMON")
      ≡ Ok ((condition.OnlySrc ∷ []) ∷ (condition.Differ aspect.Size ∷ condition.Agree aspect.Kind ∷ []) ∷ [])
  pub bad_state : expr_reading (codes "EXIST=COMMON@SIZE=X") ≡ Err (BadState 18)
  pub bad_field : expr_reading (codes "FOO=DIFFER") ≡ Err (BadField 0)
  pub no_equals : expr_reading (codes "SIZE=DIFFER,") ≡ Err (BadField 12)
  pub first : expr_reading (codes "TYPE=ONLY_SRC,FOO") ≡ Err (BadState 5)
  pub empty : expr_reading [] ≡ Err Empty
