-- What a look at a path that is taken means for the node that is to be made there.
use Rattle.tree_copy.proofs.Prelude.{◌≡◌, inl, inr, ℕ, Bool, true, false, cond, List, Option, Some, None, refl, ap, ◌∙◌, is_some, get, option_map, Files, Node}
use Rattle.tree_copy.proofs.Prelude.{Body, dir, file, link, other, is_dir, is_dir_body, is_file_body, stat_of, text_of, Kind, is_kind, Fate, look_fate, Looked}
use Rattle.tree_copy.proofs.Prelude.{is_old_of, kind_of, NewNode, File, Link}
use Rattle.outside.specs.Tree as tree
use Rattle.outside.specs.declared.trees.Kind.TheVariants as kind
use Rattle.level_work.specs.declared.items.Fate.TheVariants as fate

-- the fate, by what the reader sees
pub data Sight (is_old : Option Node → Bool) (o : Option Node) (f : Fate) : Type 0 where
  failed : f ≡ fate.Failed → Sight is_old o f
  there : f ≡ fate.Done → is_old o ≡ true → Sight is_old o f
  in_way : f ≡ fate.Conflict → is_some o ≡ true → is_old o ≡ false → Sight is_old o f
  absent : f ≡ fate.Changed → o ≡ None → Sight is_old o f

-- the bodies of a kind
body_kind : (b : Body) → (is_kind kind.Dir (tree.kind_of b) ≡ is_dir_body b) × (is_kind kind.File (tree.kind_of b) ≡ is_file_body b)
    × (is_kind kind.Link (tree.kind_of b) ≡ is_some (text_of b))
body_kind (dir far) = (refl, refl, refl)
body_kind (file bytes) = (refl, refl, refl)
body_kind (link text) = (refl, refl, refl)
body_kind other = (refl, refl, refl)

-- a directory may stay
pub dir_kind : (n : Node) → is_kind kind.Dir (tree.kind_of n.body) ≡ is_dir (Some n)
dir_kind n = (body_kind n.body).0

-- a node of the new one's kind may be replaced
pub old_kind : (new : NewNode) (n : Node) → is_kind (kind_of new) (tree.kind_of n.body) ≡ is_old_of new (Some n)
old_kind (File source) n = (body_kind n.body).1
old_kind (Link text) n = (body_kind n.body).2

pub sight : (wanted : Kind) (is_old : Option Node → Bool) → ((n : Node) → is_kind wanted (tree.kind_of n.body) ≡ is_old (Some n)) →
    (seen : Files) (p : List ℕ) (f : Fate) → Looked wanted p f seen → Sight is_old (get seen p) f
sight wanted is_old of_kind seen p f (inl e) = failed e
sight wanted is_old of_kind seen p f (inr e) = by (get seen p) e
  where
    by_node : (n : Node) (b : Bool) → is_old (Some n) ≡ b → f ≡ cond b fate.Done fate.Conflict → Sight is_old (Some n) f
    by_node n true is d = there d is
    by_node n false is d = in_way d refl is

    by : (o : Option Node) → f ≡ look_fate wanted (option_map stat_of o) → Sight is_old o f
    by None e = absent e refl
    by (Some n) e = by_node n (is_old (Some n)) refl (e ∙ ap (λ b. cond b fate.Done fate.Conflict) (of_kind n))
