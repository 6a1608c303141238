-- What the entries of a walk tell of the tree.
use Rattle.tree_walk.proofs.Prelude.{◌≡◌, ℕ, List, Option, Some, None, refl, sym, subst, All, AllByRecursion, flat_map, get, All-from_recursion, Files, Node}
use Rattle.tree_walk.proofs.Prelude.{Body, dir, file, link, other, all_weaker, Entry, Answer, told, stat_failed, list_failed, Answers, entry_of, entry_of_node}
use Rattle.tree_walk.proofs.Prelude.{walk, stat_by, StandsBy, far_by, target_by, IsTold, EntriesAreTold}
use Rattle.tree_walk.proofs.Lawful.{IsOwn, walk_own, walks_own}

-- what an entry tells of the node at its path, if there is one
record Tells (found : Option Node) (e : Entry) : Type 0 where
  stat : e.stat ≡ stat_by e.mark found
  stands : StandsBy e.mark found
  far : e.far ≡ far_by e.mark found
  target : e.target ≡ target_by e.mark found

-- where the names failed
unlisted : (body : Body) (mtime : Option ℕ) (p : List ℕ) →
    Tells (Some (record { body = body; mtime = mtime })) (entry_of_node list_failed (record { body = body; mtime = mtime }) p)
unlisted (dir far) mtime p = record { stat = refl; stands = refl; far = refl; target = refl }
unlisted _ mtime p = record { stat = refl; stands = refl; far = refl; target = refl }

tells : (answer : Answer) (found : Option Node) (p : List ℕ) → Tells found (entry_of answer found p)
tells stat_failed found p = record { stat = refl; stands = tt; far = refl; target = refl }
tells list_failed None p = record { stat = refl; stands = refl; far = refl; target = refl }
tells (told unnamed) None p = record { stat = refl; stands = refl; far = refl; target = refl }
tells list_failed (Some node) p = unlisted node.body node.mtime p
tells (told unnamed) (Some node) p = record { stat = refl; stands = refl; far = refl; target = refl }

is_told : (files : Files) (a : Answers) (e : Entry) → IsOwn files a e → IsTold files a e
is_told files a e own =
    let t = subst (Tells (get files e.path)) (sym own) (tells (a e.path) (get files e.path) e.path) in
    record { own = own; stat = t.stat; stands = t.stands; far = t.far; target = t.target }

all_told : (files : Files) (a : Answers) (entries : List Entry) → AllByRecursion (IsOwn files a) entries → All (IsTold files a) entries
all_told files a entries own = All-from_recursion (IsTold files a) entries (all_weaker (IsOwn files a) (IsTold files a) (is_told files a) entries own)

pub entries_are_told : EntriesAreTold
entries_are_told = record {
  of_one = λ files a root. all_told files a (walk files a root) (walk_own files a root);
  of_all = λ files a roots. all_told files a (flat_map (walk files a) roots) (walks_own files a roots);
}
