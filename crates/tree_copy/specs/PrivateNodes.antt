-- The node that is made anew at a path, and what a look at an old one there means. Only the contracts of this crate's own parts
-- cite it.
use Rattle.std.specs.Prelude.{◌≡◌, ◌≢◌, ◌⊎◌, Bool, List, [], Option, Some, ℕ}
use Rattle.std.specs.FinMap.{get}
use Rattle.std.specs.Option.{option_map}
use Rattle.outside.specs.Asked.{Asks, Write}
use Rattle.outside.specs.Asked as asked
use Rattle.outside.specs.Tree.{Files, Node, is_file, stat_of}
use Rattle.outside.specs.Writes.{new_file, new_link}
use Rattle.outside.specs.declared.trees.Kind.{Kind}
use Rattle.outside.specs.declared.trees.Kind.TheVariants as kind
use Rattle.entry_pages.specs.declared.entries.Entry.{Entry}
use Rattle.level_work.specs.declared.items.Fate.{Fate}
use Rattle.level_work.specs.declared.items.Fate.TheVariants as fate
use Rattle.tree_copy.specs.Causes.{LookMeans, ReadMeans}
use Rattle.tree_copy.specs.PrivateActs.{look_fate}
use Rattle.tree_copy.specs.PrivateDeeds.{is_link}
use Rattle.tree_copy.specs.declared.anew.NewNode.{NewNode}
use Rattle.tree_copy.specs.declared.anew.NewNode.TheVariants.{File, Link}

abbrev pub node_of : NewNode → Node
node_of (File source) = new_file []
node_of (Link text) = new_link text.now

abbrev pub kind_of : NewNode → Kind
kind_of (File source) = kind.File
kind_of (Link text) = kind.Link

-- whether an old node may be replaced by it
abbrev pub is_old_of : NewNode → Option Node → Bool
is_old_of (File source) = is_file
is_old_of (Link text) = is_link

-- the call that makes it
abbrev pub call_of : NewNode → Write
call_of (File source) = asked.make_file
call_of (Link text) = asked.make_link text.now

-- the entry for which it is made: a file has the path of its entry as its source, and a link has its entry's text
abbrev pub IsFor : NewNode → Entry → Type 0
IsFor (File source) e = e.path ≡ source.now
IsFor (Link text) e = e.target ≡ Some text.now

-- a look at the path failed, or this fate is what it means if a node of this kind is needed
abbrev pub Looked : Kind → List ℕ → Fate → Files → Type 0
Looked wanted p f seen = (f ≡ fate.Failed) ⊎ (f ≡ look_fate wanted (option_map stat_of (get seen p)))

-- the answers if an old node is left there
abbrev pub ShowsLeft : {R : Type 0} → Asks R → List ℕ → Entry → Kind → Fate → Type 0
ShowsLeft asks target e k f = f ≢ fate.Done → LookMeans asks target k f ⊎ ((k ≡ kind.File) × ReadMeans asks e.path f)
