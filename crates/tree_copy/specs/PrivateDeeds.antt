-- The deeds of a copy at one target. Only the contracts of this crate's own parts cite it.
use Rattle.std.specs.Prelude.{⊤, ◌≡◌, ◌⊎◌, ℕ, ◌<◌, ◌≤◌, Bool, true, false, List, length, take, Option, Some, None, is_some}
use Rattle.std.specs.FinMap.{get, insert}
use Rattle.outside.specs.Tree.{Files, Node, is_dir, is_file, content, link_at}
use Rattle.outside.specs.Writes.{empty_dir, new_file, new_link}
use Rattle.outside.specs.declared.trees.Kind.{Kind}
use Rattle.outside.specs.declared.trees.Kind.TheVariants as kind
use Rattle.outside.specs.declared.trees.Stat.{Stat}
use Rattle.entry_pages.specs.Entries.{size_by}
use Rattle.level_work.specs.Acts.{Deed}
use Rattle.level_work.specs.declared.items.Fate.{Fate}
use Rattle.level_work.specs.declared.items.Fate.TheVariants as fate

-- A directory is made, or the one that is there is kept. `seen` is the tree that the actor's reader shows
abbrev pub MakeDir : Files → Deed
MakeDir seen path entry fate.Done before after =
    ((get before path ≡ None) × (after ≡ insert before path empty_dir))
    ⊎ ((is_some (get before path) ≡ true) × (is_dir (get seen path) ≡ true) × (after ≡ before))
MakeDir seen path entry fate.Conflict before after =
    (is_some (get before path) ≡ true) × (is_some (get seen path) ≡ true) × (is_dir (get seen path) ≡ false) × (after ≡ before)
MakeDir seen path entry fate.Changed before after = (is_some (get before path) ≡ true) × (get seen path ≡ None) × (after ≡ before)
MakeDir seen path entry fate.Failed before after = ⊤
MakeDir seen path entry fate.NotEmpty before after = ⊥
MakeDir seen path entry fate.Skipped before after = ⊥
MakeDir seen path entry fate.ParentFailed before after = ⊥
MakeDir seen path entry fate.TooLong before after = ⊥

-- so many bytes from the front of the source are in the file at the path
pub record Holds (seen : Files) (source path : List ℕ) (size : ℕ) (now : Files) : Type 0 where
  pub inside : size ≤ length (content (get seen source))
  pub has : get now path ≡ Some (new_file (take size (content (get seen source))))

abbrev pub is_link : Option Node → Bool
is_link node = is_some (link_at node)

-- The reader and the part contradict each other about the path. A node is there for the one, and none for the other. Or a directory
-- is there for the one, and for the other a node that is to be made anew
abbrev pub Differ : (Option Node → Bool) → Files → List ℕ → Files → Type 0
Differ is_old seen path before =
    (is_some (get before path) ≡ true) × ((get seen path ≡ None) ⊎ ((is_dir (get before path) ≡ true) × (is_old (get seen path) ≡ true)))

-- a file is made anew, with the bytes of the source up to the entry's size
abbrev pub MakeFile : Files → Deed
MakeFile seen path entry fate.Done before after =
    ((get before path ≡ None) ⊎ (is_file (get seen path) ≡ true)) × Holds seen entry.path path (size_by entry.stat) after
MakeFile seen path entry fate.Conflict before after =
    (is_some (get before path) ≡ true) × (is_some (get seen path) ≡ true) × (is_file (get seen path) ≡ false) × (after ≡ before)
MakeFile seen path entry fate.Changed before after = (length (content (get seen entry.path)) < size_by entry.stat) ⊎ Differ is_file seen path before
MakeFile seen path entry fate.Failed before after = ⊤
MakeFile seen path entry fate.NotEmpty before after = ⊥
MakeFile seen path entry fate.Skipped before after = ⊥
MakeFile seen path entry fate.ParentFailed before after = ⊥
MakeFile seen path entry fate.TooLong before after = ⊥

-- this node is at the path, in place of none or of an old one of its kind
abbrev pub Placed : Node → (is_old : Option Node → Bool) → Files → List ℕ → Fate → Files → Files → Type 0
Placed node is_old seen path fate.Done before after = ((get before path ≡ None) ⊎ (is_old (get seen path) ≡ true)) × (get after path ≡ Some node)
Placed node is_old seen path fate.Conflict before after =
    (is_some (get before path) ≡ true) × (is_some (get seen path) ≡ true) × (is_old (get seen path) ≡ false) × (after ≡ before)
Placed node is_old seen path fate.Changed before after = Differ is_old seen path before
Placed node is_old seen path fate.Failed before after = ⊤
Placed node is_old seen path fate.NotEmpty before after = ⊥
Placed node is_old seen path fate.Skipped before after = ⊥
Placed node is_old seen path fate.ParentFailed before after = ⊥
Placed node is_old seen path fate.TooLong before after = ⊥

-- a link is made anew, with this text
abbrev pub MakeLink : List ℕ → Files → Deed
MakeLink text seen path entry f before after = Placed (new_link text) is_link seen path f before after

-- a link whose text is not known is not made. A node of another kind is in its way
abbrev pub LeaveLink : Files → Deed
LeaveLink seen path entry fate.Conflict before after = (is_some (get seen path) ≡ true) × (is_link (get seen path) ≡ false) × (after ≡ before)
LeaveLink seen path entry fate.Changed before after = ((get seen path ≡ None) ⊎ (is_link (get seen path) ≡ true)) × (after ≡ before)
LeaveLink seen path entry fate.Failed before after = ⊤
LeaveLink seen path entry fate.Done before after = ⊥
LeaveLink seen path entry fate.NotEmpty before after = ⊥
LeaveLink seen path entry fate.Skipped before after = ⊥
LeaveLink seen path entry fate.ParentFailed before after = ⊥
LeaveLink seen path entry fate.TooLong before after = ⊥

abbrev pub LinkBy : Option (List ℕ) → Files → Deed
LinkBy None seen = LeaveLink seen
LinkBy (Some text) seen = MakeLink text seen

abbrev pub CopyLink : Files → Deed
CopyLink seen path entry f before after = LinkBy entry.target seen path entry f before after

-- a node that is not a directory, file or link is not copied
abbrev pub PassOver : Deed
PassOver path entry fate.Skipped before after = after ≡ before
PassOver path entry fate.Done before after = ⊥
PassOver path entry fate.Failed before after = ⊥
PassOver path entry fate.Conflict before after = ⊥
PassOver path entry fate.Changed before after = ⊥
PassOver path entry fate.NotEmpty before after = ⊥
PassOver path entry fate.ParentFailed before after = ⊥
PassOver path entry fate.TooLong before after = ⊥

abbrev pub CopyKind : Kind → Files → Deed
CopyKind kind.Dir seen = MakeDir seen
CopyKind kind.File seen = MakeFile seen
CopyKind kind.Link seen = CopyLink seen
CopyKind kind.Other seen = PassOver

abbrev pub CopyTold : Option Stat → Files → Deed
CopyTold None seen = PassOver
CopyTold (Some stat) seen = CopyKind stat.kind seen

-- the entry's node is made anew at the path
abbrev pub CopyOne : Files → Deed
CopyOne seen path entry f before after = CopyTold entry.stat seen path entry f before after
