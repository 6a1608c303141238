-- The entry of one path, by the files' answers, each asked for once. After the process step of libcircle's walk (SC 2012): a stat,
-- and then the names of a directory. The text of a link is our own. A mark is `StatFailed` if the stat of the path failed or the
-- reading of its link. It is `Changed` if the stat said a directory, or a link, and the next answer said that it is not one.
-- Only clauses of this crate's own functions cite this file.
use Rattle.std.specs.Prelude.{◌≡◌, ℕ, Bool, true, false, List, [], map, Option, Some, None, IfSome, Result, Ok, Err}
use Rattle.path_text.specs.Path.{joined}
use Rattle.outside.specs.Tree.{Files, AreNames}
use Rattle.outside.specs.Count.{RoseBy}
use Rattle.outside.specs.declared.failures.Failed.{Failed}
use Rattle.outside.specs.declared.listings.Listing.{Listing}
use Rattle.outside.specs.declared.trees.ListError.{ListError}
use Rattle.outside.specs.declared.trees.ListError.TheVariants as list
use Rattle.outside.specs.declared.trees.LinkError.{LinkError}
use Rattle.outside.specs.declared.trees.LinkError.TheVariants as link
use Rattle.outside.specs.declared.trees.Stat.{Stat}
use Rattle.entry_pages.specs.declared.entries.Entry.{Entry}
use Rattle.entry_pages.specs.declared.entries.Mark.TheVariants as mark
use Rattle.entry_pages.specs.Entries.{has_target, is_shaped}
use Rattle.tree_walk.specs.Walk.{bare, weight_of}
use Rattle.tree_walk.specs.Held.{IsDone, is_listed}

-- the entry of a path, by the answer of its stat
abbrev pub by_stat : List ℕ → Result (Option Stat) Failed → Entry
by_stat path (Err failed) = bare path mark.StatFailed
by_stat path (Ok None) = bare path mark.Gone
by_stat path (Ok (Some stat)) = record { path = path; stat = Some stat; mark = mark.Fine; unnamed = 0; far = 0; target = None }

-- an entry by a stat whose link is read
abbrev pub is_linked : Entry → Bool
is_linked e = has_target e.mark e.stat

-- the entry of a link, by the answer of its reading; none if that is out of memory
abbrev pub by_link : Entry → Result (List ℕ) LinkError → Option Entry
by_link e (Ok text) = Some (record e { target = Some text })
by_link e (Err link.Failed) = Some (bare e.path mark.StatFailed)
by_link e (Err link.NotLink) = Some (record e { mark = mark.Changed })
by_link e (Err link.OutOfMemory) = None

-- the entry of a directory and the names below it, by the answer of its listing; none if that is out of memory
abbrev pub by_list : Entry → Result Listing ListError → Option (Entry × Listing)
by_list e (Ok names) = Some (record e { unnamed = names.1; far = names.2 }, names)
by_list e (Err list.Failed) = Some (record e { mark = mark.ListFailed }, ([], 0, 0))
by_list e (Err list.NotDir) = Some (record e { mark = mark.Changed }, ([], 0, 0))
by_list e (Err list.OutOfMemory) = None

-- a look at a path gives this, over files that may tell a tree. Their count of faults went from old to new
pub record IsLook (tree : Option Files) (path : List ℕ) (old new : ℕ) (e : Entry) (names : Listing) : Type 0 where
  -- if the files tell their tree, the entry and the children are those of the recursive walk, by the answer that the entry tells
  pub told : IfSome tree (λ files. IsDone files (e, map (joined path) names.0))
  pub at : e.path ≡ path
  pub shaped : is_shaped e ≡ true
  pub are : AreNames path names.0
  -- names are kept of a directory that was listed, with both numbers, and of nothing else
  pub alone : is_listed e ≡ false → names.0 ≡ []
  pub listed : is_listed e ≡ true → (e.unnamed ≡ names.1) × (e.far ≡ names.2)
  -- and the answer that failed was counted
  pub counted : RoseBy (weight_of e) old new
