-- What a look gives, by the answers of the files.
use Rattle.tree_walk.proofs.Prelude.{◌≡◌, ◌≢◌, ℕ, ◌≤◌, Bool, true, false, ◌&&◌, ◌||◌, List, [], map, length, cond, refl, ap, ◌∙◌, sym, arith, Option, Some}
use Rattle.tree_walk.proofs.Prelude.{None, IfSome, ◌==◌, Result, Ok, Err, IfOk, OnOk, OnErr, IsErrOf, option_map, get, or-true, false≢true, and_from, joined}
use Rattle.tree_walk.proofs.Prelude.{Files, Node, Body, dir, file, link, other, IsTree, Lists, AreNames, is_dir, stat_of, far_of, text_of, link_at, names_in}
use Rattle.tree_walk.proofs.Prelude.{RoseBy, Failed, Listing, ListError, LinkError, Kind, Stat, Entry, Mark, is_kind, is_shaped, bare, told, list_failed}
use Rattle.tree_walk.proofs.Prelude.{entry_of, weight_of, IsDone, is_listed, by_stat, by_link, by_list, is_linked, IsLook, both_first, and_false}
use Rattle.outside.specs.declared.trees.ListError.TheVariants as list
use Rattle.outside.specs.declared.trees.LinkError.TheVariants as link_e
use Rattle.outside.specs.declared.trees.Kind.TheVariants as kind
use Rattle.entry_pages.specs.declared.entries.Mark.TheVariants as mark
use Rattle.tree_walk.proofs.Names.{no_names}

-- an answer of a stat at a path, over files that may tell a tree and whose count of faults went from old to new
pub record IsStat (tree : Option Files) (path : List ℕ) (old new : ℕ) (answer : Result (Option Stat) Failed) : Type 0 where
  pub valid : IfSome tree IsTree
  pub short : length path ≤ 4095
  pub told : IfOk answer (λ found. IfSome tree (λ files. found ≡ option_map stat_of (get files path)))
  pub size : IfOk answer (λ found. IfSome found (λ stat. stat.kind ≢ kind.File → stat.size ≡ 0))
  pub ok : OnOk answer (RoseBy 0 old new)
  pub cause : OnErr answer (RoseBy 1 old new)

-- an answer of a listing
pub record IsListing (tree : Option Files) (path : List ℕ) (old new : ℕ) (answer : Result Listing ListError) : Type 0 where
  pub told : IfOk answer (λ names. IfSome tree (λ files. Lists files path names))
  pub not_dir : IsErrOf answer list.NotDir → IfSome tree (λ files. is_dir (get files path) ≡ false)
  pub are : IfOk answer (λ names. AreNames path names.0)
  pub unnamed : IfOk answer (λ names. RoseBy names.1 old new)
  pub cause : IsErrOf answer list.Failed → RoseBy 1 old new
  pub err : OnErr answer (RoseBy 0 old new)

-- an entry with a stat
abbrev with_stat : List ℕ → Stat → Mark → ℕ → ℕ → Entry
with_stat path stat m unnamed far = record { path = path; stat = Some stat; mark = m; unnamed = unnamed; far = far; target = None }

-- ---- the shape

sized : (k : Kind) (n : ℕ) → (k ≢ kind.File → n ≡ 0) → (is_kind kind.File k || n == 0) ≡ true
sized kind.File n h = refl
sized _ n h = ap (λ m. m == 0) (h (λ e. cc))

-- ---- what the tree has

nothing : (found : Option Node) → None ≡ option_map stat_of found → found ≡ None
nothing None e = refl
nothing (Some node) e = absurd (cc)

-- what is no directory is as its stat says
record IsPlain (path : List ℕ) (stat : Stat) (found : Option Node) : Type 0 where
  entry : with_stat path stat mark.Fine 0 0 ≡ entry_of (told 0) found path
  none : is_dir found ≡ false

plain_node : (body : Body) (mtime : Option ℕ) (path : List ℕ) (stat : Stat) → stat ≡ stat_of (record { body = body; mtime = mtime }) →
    is_kind kind.Dir stat.kind ≡ false → is_kind kind.Link stat.kind ≡ false → IsPlain path stat (Some (record { body = body; mtime = mtime }))
plain_node (dir far) mtime path stat e l k = absurd (false≢true (sym l ∙ ap (λ s. is_kind kind.Dir s.kind) e))
plain_node (link text) mtime path stat e l k = absurd (false≢true (sym k ∙ ap (λ s. is_kind kind.Link s.kind) e))
plain_node _ mtime path stat e l k = record { entry = ap (λ s. with_stat path s mark.Fine 0 0) e; none = refl }

plain : (found : Option Node) (path : List ℕ) (stat : Stat) → Some stat ≡ option_map stat_of found → is_kind kind.Dir stat.kind ≡ false →
    is_kind kind.Link stat.kind ≡ false → IsPlain path stat found
plain None path stat e l k = absurd (cc)
plain (Some node) path stat e l k = plain_node node.body node.mtime path stat (cc) l k

-- a link
record IsLinkThere (stat : Stat) (text : List ℕ) (found : Option Node) : Type 0 where
  mtime : Option ℕ
  there : found ≡ Some (record { body = link text; mtime = mtime })
  told : stat ≡ stat_of (record { body = link text; mtime = mtime })

link_node : (body : Body) (mtime : Option ℕ) (stat : Stat) (text : List ℕ) → stat ≡ stat_of (record { body = body; mtime = mtime }) →
    text_of body ≡ Some text → IsLinkThere stat text (Some (record { body = body; mtime = mtime }))
link_node (link own) mtime stat text e l =
    let same : own ≡ text = cc in
    record {
      mtime = mtime;
      there = ap (λ t. Some (let n : Node = record { body = link t; mtime = mtime } in n)) same;
      told = e ∙ ap (λ t. stat_of (record { body = link t; mtime = mtime })) same;
    }
link_node _ mtime stat text e l = absurd cc

link_there : (found : Option Node) (stat : Stat) (text : List ℕ) → Some stat ≡ option_map stat_of found → link_at found ≡ Some text →
    IsLinkThere stat text found
link_there None stat text e l = absurd cc
link_there (Some node) stat text e l = link_node node.body node.mtime stat text (cc) l

-- what its stat tells to be a link is one
some_link : (found : Option Node) (stat : Stat) → Some stat ≡ option_map stat_of found → is_kind kind.Link stat.kind ≡ true → link_at found ≡ None → ⊥
some_link None stat e l n = absurd cc
some_link (Some node) stat e l n = by_body node.body (cc) n
  where
    by_body : (body : Body) → stat ≡ stat_of (record { body = body; mtime = node.mtime }) → text_of body ≡ None → ⊥
    by_body (dir far) e n = false≢true (ap (λ s. is_kind kind.Link s.kind) (sym e) ∙ l)
    by_body (file bytes) e n = false≢true (ap (λ s. is_kind kind.Link s.kind) (sym e) ∙ l)
    by_body (link text) e n = absurd cc
    by_body other e n = false≢true (ap (λ s. is_kind kind.Link s.kind) (sym e) ∙ l)

-- a directory
record IsDirThere (stat : Stat) (found : Option Node) : Type 0 where
  far : ℕ
  mtime : Option ℕ
  there : found ≡ Some (record { body = dir far; mtime = mtime })
  told : stat ≡ stat_of (record { body = dir far; mtime = mtime })

dir_node : (body : Body) (mtime : Option ℕ) (stat : Stat) → stat ≡ stat_of (record { body = body; mtime = mtime }) →
    is_kind kind.Dir stat.kind ≡ true → IsDirThere stat (Some (record { body = body; mtime = mtime }))
dir_node (dir far) mtime stat e l = record { far = far; mtime = mtime; there = refl; told = e }
dir_node _ mtime stat e l = absurd (false≢true (sym (ap (λ s. is_kind kind.Dir s.kind) e) ∙ l))

dir_there : (found : Option Node) (stat : Stat) → Some stat ≡ option_map stat_of found → is_kind kind.Dir stat.kind ≡ true → IsDirThere stat found
dir_there None stat e l = absurd (cc)
dir_there (Some node) stat e l = dir_node node.body node.mtime stat (cc) l

-- ---- a stat alone

pub stat_at : (path : List ℕ) (answer : Result (Option Stat) Failed) → (by_stat path answer).path ≡ path
stat_at path (Ok (Some stat)) = refl
stat_at path _ = refl

failed_told : (tree : Option Files) (path : List ℕ) → IfSome tree IsTree → length path ≤ 4095 →
    IfSome tree (λ files. IsDone files (bare path mark.StatFailed, []))
failed_told None path t s = tt
failed_told (Some files) path t s = record { valid = t; short = s; entry = refl; children = refl }

gone_told : (tree : Option Files) (path : List ℕ) → IfSome tree IsTree → length path ≤ 4095 →
    IfSome tree (λ files. None ≡ option_map stat_of (get files path)) →
    IfSome tree (λ files. IsDone files (bare path mark.Gone, []))
gone_told None path t s h = tt
gone_told (Some files) path t s h =
    let none = sym (nothing (get files path) h) in
    record {
      valid = t;
      short = s;
      entry = ap (λ o. entry_of (told 0) o path) none;
      children = ap (λ o. cond (is_dir o) (map (joined path) (names_in files path)) []) none;
    }

plain_told : (tree : Option Files) (path : List ℕ) (stat : Stat) → IfSome tree IsTree → length path ≤ 4095 →
    IfSome tree (λ files. Some stat ≡ option_map stat_of (get files path)) → is_kind kind.Dir stat.kind ≡ false → is_kind kind.Link stat.kind ≡ false →
    IfSome tree (λ files. IsDone files (with_stat path stat mark.Fine 0 0, []))
plain_told None path stat t s h l k = tt
plain_told (Some files) path stat t s h l k =
    let p = plain (get files path) path stat h l k in
    record {
      valid = t;
      short = s;
      entry = p.entry;
      children = ap (λ b. cond b (map (joined path) (names_in files path)) []) (sym p.none);
    }

no_dir : (b : Bool) → (b && true) ≡ false → b ≡ false
no_dir true e = e
no_dir false e = refl

-- a look that names no children
childless : (tree : Option Files) (path : List ℕ) (old new : ℕ) (e : Entry) → IfSome tree (λ files. IsDone files (e, [])) → e.path ≡ path →
    is_shaped e ≡ true → is_listed e ≡ false → RoseBy (weight_of e) old new → IsLook tree path old new e ([], 0, 0)
childless tree path old new e done at shaped none counted = record {
  told = done;
  at = at;
  shaped = shaped;
  are = no_names path [] refl;
  alone = λ n. refl;
  listed = λ y. absurd (false≢true (sym none ∙ y));
  counted = counted;
}

pub stat_alone : (tree : Option Files) (path : List ℕ) (old new : ℕ) (answer : Result (Option Stat) Failed) → IsStat tree path old new answer →
    is_listed (by_stat path answer) ≡ false → is_linked (by_stat path answer) ≡ false → IsLook tree path old new (by_stat path answer) ([], 0, 0)
stat_alone tree path old new (Err failed) s l k = childless _ _ _ _ _ (failed_told tree path s.valid s.short) refl refl refl s.cause
stat_alone tree path old new (Ok None) s l k = childless _ _ _ _ _ (gone_told tree path s.valid s.short s.told) refl refl refl s.ok
stat_alone tree path old new (Ok (Some stat)) s l k = childless _ _ _ _ _
    (plain_told tree path stat s.valid s.short s.told (no_dir (is_kind kind.Dir stat.kind) l) (no_dir (is_kind kind.Link stat.kind) k)) refl
    (and_from (is_kind kind.File stat.kind || stat.size == 0) (is_kind kind.Dir stat.kind || true) (sized stat.kind stat.size s.size)
    (or-true (is_kind kind.Dir stat.kind))) l s.ok

-- faults of two calls
rose : (k old mid new : ℕ) → RoseBy 0 old mid → RoseBy k mid new → RoseBy k old new
rose k old mid new f g = record { kept = omega (arith, f.kept, g.kept); rose = omega (arith, f.kept, g.rose) }

-- ---- a link's text behind a stat

-- an answer of a reading of a link
pub record IsReading (tree : Option Files) (path : List ℕ) (old new : ℕ) (answer : Result (List ℕ) LinkError) : Type 0 where
  pub told : IfOk answer (λ text. IfSome tree (λ files. link_at (get files path) ≡ Some text))
  pub not_link : IsErrOf answer link_e.NotLink → IfSome tree (λ files. link_at (get files path) ≡ None)
  pub cause : IsErrOf answer link_e.Failed → RoseBy 1 old new
  pub count : RoseBy 0 old new

-- an entry of a link
abbrev with_text : List ℕ → Stat → Option (List ℕ) → Entry
with_text path stat text = record { path = path; stat = Some stat; mark = mark.Fine; unnamed = 0; far = 0; target = text }

link_told : (tree : Option Files) (path : List ℕ) (stat : Stat) (text : List ℕ) → IfSome tree IsTree → length path ≤ 4095 →
    IfSome tree (λ files. Some stat ≡ option_map stat_of (get files path)) → IfSome tree (λ files. link_at (get files path) ≡ Some text) →
    IfSome tree (λ files. IsDone files (with_text path stat (Some text), []))
link_told None path stat text t s h g = tt
link_told (Some files) path stat text t s h g =
    let l = link_there (get files path) stat text h g in
    record {
      valid = t;
      short = s;
      entry = ap (λ x. with_text path x (Some text)) l.told ∙ ap (λ o. entry_of (told 0) o path) (sym l.there);
      children = ap (λ o. cond (is_dir o) (map (joined path) (names_in files path)) []) (sym l.there);
    }

-- files that tell their tree do not change
never_told : (tree : Option Files) (path : List ℕ) (stat : Stat) → IfSome tree (λ files. Some stat ≡ option_map stat_of (get files path)) →
    is_kind kind.Link stat.kind ≡ true → IfSome tree (λ files. link_at (get files path) ≡ None) →
    IfSome tree (λ files. IsDone files (with_stat path stat mark.Changed 0 0, []))
never_told None path stat h l n = tt
never_told (Some files) path stat h l n = absurd (some_link (get files path) stat h l n)

no_dir_link : (k : Kind) → is_kind kind.Link k ≡ true → (is_kind kind.Dir k && true) ≡ false
no_dir_link kind.Link l = refl
no_dir_link _ l = absurd (false≢true l)

pub stat_and_link : (tree : Option Files) (path : List ℕ) (old mid new : ℕ) (answer : Result (Option Stat) Failed) (text : Result (List ℕ) LinkError) →
    IsStat tree path old mid answer → IsReading tree path mid new text → is_linked (by_stat path answer) ≡ true →
    IfSome (by_link (by_stat path answer) text) (λ e. IsLook tree path old new e ([], 0, 0))
stat_and_link tree path old mid new (Err failed) text s g l = absurd (false≢true l)
stat_and_link tree path old mid new (Ok None) text s g l = absurd (false≢true l)
stat_and_link tree path old mid new (Ok (Some stat)) text s g l = by text g
  where
    is : is_kind kind.Link stat.kind ≡ true
    is = both_first (is_kind kind.Link stat.kind) true l

    size : (is_kind kind.File stat.kind || stat.size == 0) ≡ true
    size = sized stat.kind stat.size s.size

    by : (text : Result (List ℕ) LinkError) → IsReading tree path mid new text →
        IfSome (by_link (by_stat path (Ok (Some stat))) text) (λ e. IsLook tree path old new e ([], 0, 0))
    by (Ok text) g = childless _ _ _ _ _ (link_told tree path stat text s.valid s.short s.told g.told) refl
        (and_from (is_kind kind.Link stat.kind && true) ((is_kind kind.File stat.kind || stat.size == 0) && (is_kind kind.Dir stat.kind || true)) l
        (and_from (is_kind kind.File stat.kind || stat.size == 0) (is_kind kind.Dir stat.kind || true) size (or-true (is_kind kind.Dir stat.kind))))
        (no_dir_link stat.kind is) (rose 0 old mid new s.ok g.count)
    by (Err link_e.Failed) g = childless _ _ _ _ _ (failed_told tree path s.valid s.short) refl refl refl (rose 1 old mid new s.ok (g.cause refl))
    by (Err link_e.NotLink) g = childless _ _ _ _ _ (never_told tree path stat s.told is (g.not_link refl)) refl
        (and_from (is_kind kind.File stat.kind || stat.size == 0) ((is_kind kind.Dir stat.kind || is_kind kind.Link stat.kind) && true) size
        (and_from (is_kind kind.Dir stat.kind || is_kind kind.Link stat.kind) true
        (ap (λ (b : Bool). is_kind kind.Dir stat.kind || b) is ∙ or-true (is_kind kind.Dir stat.kind)) refl))
        (and_false (is_kind kind.Dir stat.kind)) (rose 0 old mid new s.ok g.count)
    by (Err link_e.OutOfMemory) g = tt

-- ---- a listing behind a stat

listed_told : (tree : Option Files) (path : List ℕ) (stat : Stat) (names : Listing) → IfSome tree IsTree → length path ≤ 4095 →
    IfSome tree (λ files. Some stat ≡ option_map stat_of (get files path)) → is_kind kind.Dir stat.kind ≡ true → IfSome tree (λ files. Lists files path names) →
    IfSome tree (λ files. IsDone files (with_stat path stat mark.Fine names.1 names.2, map (joined path) names.0))
listed_told None path stat names t s h l g = tt
listed_told (Some files) path stat names t s h l g =
    let d = dir_there (get files path) stat h l in
    let same : Some names.2 ≡ Some d.far = g.far ∙ ap (option_map (λ n. far_of n.body)) d.there in
    let far : names.2 ≡ d.far = cc in
    record {
      valid = t;
      short = s;
      entry = (λ i. with_stat path (d.told i) mark.Fine names.1 (far i)) ∙ ap (λ o. entry_of (told names.1) o path) (sym d.there);
      children = ap (map (joined path)) g.names ∙ ap (λ b. cond b (map (joined path) (names_in files path)) []) (sym g.is_dir);
    }

unlisted_told : (tree : Option Files) (path : List ℕ) (stat : Stat) → IfSome tree IsTree → length path ≤ 4095 →
    IfSome tree (λ files. Some stat ≡ option_map stat_of (get files path)) → is_kind kind.Dir stat.kind ≡ true →
    IfSome tree (λ files. IsDone files (with_stat path stat mark.ListFailed 0 0, []))
unlisted_told None path stat t s h l = tt
unlisted_told (Some files) path stat t s h l =
    let d = dir_there (get files path) stat h l in
    record {
      valid = t;
      short = s;
      entry = ap (λ x. with_stat path x mark.ListFailed 0 0) d.told ∙ ap (λ o. entry_of list_failed o path) (sym d.there);
      children = refl;
    }

-- files that tell their tree do not change
changed_told : (tree : Option Files) (path : List ℕ) (stat : Stat) → IfSome tree (λ files. Some stat ≡ option_map stat_of (get files path)) →
    is_kind kind.Dir stat.kind ≡ true → IfSome tree (λ files. is_dir (get files path) ≡ false) →
    IfSome tree (λ files. IsDone files (with_stat path stat mark.Changed 0 0, []))
changed_told None path stat h l n = tt
changed_told (Some files) path stat h l n = let d = dir_there (get files path) stat h l in absurd (false≢true (sym n ∙ ap is_dir d.there))

pub stat_and_list : (tree : Option Files) (path : List ℕ) (old mid new : ℕ) (answer : Result (Option Stat) Failed) (names : Result Listing ListError) →
    IsStat tree path old mid answer → IsListing tree path mid new names → is_listed (by_stat path answer) ≡ true →
    IfSome (by_list (by_stat path answer) names) (λ r. IsLook tree path old new r.0 r.1)
stat_and_list tree path old mid new (Err failed) names s g l = absurd (false≢true l)
stat_and_list tree path old mid new (Ok None) names s g l = absurd (false≢true l)
stat_and_list tree path old mid new (Ok (Some stat)) names s g l = by names g
  where
    is : is_kind kind.Dir stat.kind ≡ true
    is = both_first (is_kind kind.Dir stat.kind) true l

    size : (is_kind kind.File stat.kind || stat.size == 0) ≡ true
    size = sized stat.kind stat.size s.size

    by : (names : Result Listing ListError) → IsListing tree path mid new names →
        IfSome (by_list (by_stat path (Ok (Some stat))) names) (λ r. IsLook tree path old new r.0 r.1)
    by (Ok names) g = record {
      told = listed_told tree path stat names s.valid s.short s.told is g.told;
      at = refl;
      shaped = and_from (is_kind kind.File stat.kind || stat.size == 0) (is_kind kind.Dir stat.kind || (names.1 == 0 && names.2 == 0)) size
          (ap (λ b. b || (names.1 == 0 && names.2 == 0)) is);
      are = g.are;
      alone = λ n. absurd (false≢true (sym n ∙ l));
      listed = λ y. (refl, refl);
      counted = rose names.1 old mid new s.ok g.unnamed;
    }
    by (Err list.Failed) g = childless _ _ _ _ _ (unlisted_told tree path stat s.valid s.short s.told is) refl
        (and_from (is_kind kind.File stat.kind || stat.size == 0) (is_kind kind.Dir stat.kind && true) size l)
        (and_false (is_kind kind.Dir stat.kind)) (rose 1 old mid new s.ok (g.cause refl))
    by (Err list.NotDir) g = childless _ _ _ _ _ (changed_told tree path stat s.told is (g.not_dir refl)) refl
        (and_from (is_kind kind.File stat.kind || stat.size == 0) ((is_kind kind.Dir stat.kind || is_kind kind.Link stat.kind) && true) size
        (and_from (is_kind kind.Dir stat.kind || is_kind kind.Link stat.kind) true (ap (λ (b : Bool). b || is_kind kind.Link stat.kind) is) refl))
        (and_false (is_kind kind.Dir stat.kind)) (rose 0 old mid new s.ok g.err)
    by (Err list.OutOfMemory) g = tt
