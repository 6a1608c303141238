-- A comparison after a sync shows no difference where both sides have alike nodes.
use Rattle.tree_sync.proofs.Prelude.{◌≡◌, ℕ, Bool, true, false, not, cond, ◌||◌, ◌&&◌, List, ◌++◌, length, Option, Some, None, IfSome, refl, ap, ◌∙◌, sym}
use Rattle.tree_sync.proofs.Prelude.{subst, arith, nat_eq, is_some, ◌==◌, get, Contains, pointwise, bytes_decides, false≢true, and_parts, nat_tests}
use Rattle.tree_sync.proofs.Prelude.{All-contains, below_of, grafted, is_within, refusal, below_made, Files, Node, Body, dir, file, link, other, IsTree}
use Rattle.tree_sync.proofs.Prelude.{NodesHavePaths, bytes_of, content, kind_of, link_at, size_of, Stat, Entry, is_kind, Two, Row, Findings, IsContent, IsRow}
use Rattle.tree_sync.proofs.Prelude.{are_files, are_links, is_missed, is_read, kinds, same_bytes, sizes, stat_at, texts, two_of, Side, side, entry_at, is_gone}
use Rattle.tree_sync.proofs.Prelude.{is_hidden, Pair, AgreesAfter, AreAlike, IsEqual, IsFullList, MayHaveMore, WasCompared, is_both, is_common, is_differ}
use Rattle.tree_sync.proofs.Prelude.{is_only_dest}
use Rattle.outside.specs.declared.trees.Kind.TheVariants as kind
use Rattle.tree_cmp.specs.declared.rows.Two.TheVariants as two
use Rattle.tree_sync.proofs.Alike.{file_size}
use Rattle.tree_sync.proofs.Both.{kind_is}
use Rattle.tree_sync.proofs.Members.{some_on}
use Rattle.tree_sync.proofs.Sided.{Has, Stands, StatTold, TextTold, entry_of, has_node, some_of, valid_of}

-- ---- a full list

-- each of its entries that is not gone has a stat, and a node stands there
record FullAt (files : Files) (top p : List ℕ) (x : Entry) : Type 0 where
  told : Stat
  stat : x.stat ≡ Some told
  node : Stands files (grafted top p) told
  path : x.path ≡ grafted top p
  text : TextTold files x
  valid : refusal p ≡ None

full_at : NodesHavePaths → (top : List ℕ) (list : List Entry) (files : Files) → IsTree files → IsFullList top list files → (p : List ℕ) (x : Entry) →
    entry_at (side top list) p ≡ Some x → FullAt files top p x
full_at law top list files tree f p x at =
    let s = side top list in
    let h = entry_of s f.is_side p x at in
    let clear = All-contains (λ (e : Entry). (is_gone e.mark || is_some e.stat) ≡ true) list x f.clear h.is_in in
    let st = some_of x.stat (ap (λ g. g || is_some x.stat) (sym h.there) ∙ clear) in
    let told = All-contains (StatTold files) list x f.told.stats h.is_in in
    let within = All-contains (λ (e : Entry). is_within e.path top ≡ true) list x f.is_side.within h.is_in in
    let has : Has s p st.0 = record { entry = x; at = at; is_in = h.is_in; stat = st.1; below = h.below; path = h.path } in
    record {
      told = st.0;
      stat = st.1;
      node = has_node s files f.told p st.0 has;
      path = h.path;
      text = All-contains (TextTold files) list x f.told.targets h.is_in;
      valid = subst (λ q. refusal q ≡ None) h.below
          (below_made x.path top (below_of x.path top) refl (valid_of law files tree x (ap is_some st.1) told) within);
    }

-- where a node stands it has an entry
entry_there : (top : List ℕ) (list : List Entry) (files : Files) → IsFullList top list files → (p : List ℕ) → refusal p ≡ None → (n : Node) →
    get files (grafted top p) ≡ Some n → entry_at (side top list) p ≡ None → ⊥
entry_there top list files f p v n at none =
    false≢true (ap (λ o. is_some (stat_at o)) (sym none) ∙ f.whole p v (ap is_some at))

-- ---- two entries of alike nodes

size_is : (a b : ℕ) → a ≡ b → (a == b) ≡ true
size_is a b e = grind (arith, nat_tests)

no_size : (b : Body) → (kind_of b ≡ kind.File → ⊥) → size_of b ≡ 0
no_size (file bytes) h = absurd (h refl)
no_size _ h = refl

alike_sizes : (n m : Node) → AreAlike n m → size_of m.body ≡ size_of n.body
alike_sizes n m a = by n.body m.body a.kind a.bytes
  where
    by : (b c : Body) → kind_of c ≡ kind_of b → bytes_of c ≡ bytes_of b → size_of c ≡ size_of b
    by (file bytes) c k e = file_size c k ∙ ap length e
    by (dir far) c k e = no_size c (λ f. absurd (differ (sym k ∙ f)))
      where
        differ : kind.Dir ≡ kind.File → ⊥
        differ e = absurd (cc)
    by (link text) c k e = no_size c (λ f. absurd (differ (sym k ∙ f)))
      where
        differ : kind.Link ≡ kind.File → ⊥
        differ e = absurd (cc)
    by other c k e = no_size c (λ f. absurd (differ (sym k ∙ f)))
      where
        differ : kind.Other ≡ kind.File → ⊥
        differ e = absurd (cc)

module _ (files : Files) (s t p : List ℕ) (x y : Entry) (a : FullAt files s p x) (b : FullAt files t p y)
    (alike : AreAlike a.node.node b.node.node) where
  same_kinds : b.told.kind ≡ a.told.kind
  same_kinds = ap (λ (x : Stat). x.kind) (sym b.node.stat) ∙ alike.kind ∙ ap (λ (x : Stat). x.kind) a.node.stat

  kind_agrees : kinds x.stat y.stat ≡ two.Common
  kind_agrees = (λ i. kinds (a.stat i) (b.stat i)) ∙ ap (λ k. two_of (is_kind a.told.kind k)) same_kinds ∙ ap two_of (kind_is a.told.kind)

  same_sizes : a.told.size ≡ b.told.size
  same_sizes = ap (λ (x : Stat). x.size) (sym a.node.stat) ∙ sym (alike_sizes a.node.node b.node.node alike) ∙ ap (λ (x : Stat). x.size) b.node.stat

  size_agrees : is_differ (sizes x.stat y.stat) ≡ false
  size_agrees =
      (λ i. is_differ (sizes (a.stat i) (b.stat i)))
      ∙ ap (λ e. is_differ (cond (are_files a.told b.told) (two_of e) two.NoValue)) (size_is a.told.size b.told.size same_sizes)
      ∙ either (are_files a.told b.told)
    where
      either : (f : Bool) → is_differ (cond f two.Common two.NoValue) ≡ false
      either true = refl
      either false = refl

  at_x : get files x.path ≡ Some a.node.node
  at_x = ap (get files) a.path ∙ a.node.there

  at_y : get files y.path ≡ Some b.node.node
  at_y = ap (get files) b.path ∙ b.node.there

  texts_agree : is_differ (texts x.target y.target) ≡ false
  texts_agree = by x.target y.target a.text b.text
    where
      same : (t u : List ℕ) → Some t ≡ Some u → t ≡ u
      same t u e = cc

      by : (t u : Option (List ℕ)) → IfSome t (λ text. link_at (get files x.path) ≡ Some text) → IfSome u (λ text. link_at (get files y.path) ≡ Some text) →
          is_differ (texts t u) ≡ false
      by None u e f = refl
      by (Some t) None e f = refl
      by (Some t) (Some u) e f =
          let one : t ≡ u = same t u (sym e ∙ ap link_at at_x ∙ sym alike.text ∙ sym (ap link_at at_y) ∙ f) in
          ap (λ c. is_differ (two_of c)) ((bytes_decides t u).1 one)

  bytes_agree : same_bytes files (Some x) (Some y) ≡ true
  bytes_agree = (bytes_decides (content (get files x.path)) (content (get files y.path))).1 (ap content at_x ∙ sym alike.bytes ∙ sym (ap content at_y))

  content_agrees : (missed : Bool) (c : Two) → IsContent (Some files) missed (Some x) (Some y) c → is_differ c ≡ false
  content_agrees missed c h = by (is_read x.stat y.stat) missed refl refl
    where
      unread_agrees : (links : Bool) → is_differ (cond links (texts x.target y.target) (sizes x.stat y.stat)) ≡ false
      unread_agrees true = texts_agree
      unread_agrees false = size_agrees

      by : (r m : Bool) → is_read x.stat y.stat ≡ r → missed ≡ m → is_differ c ≡ false
      by true true r m = ap is_differ (h.unknown r m)
      by true false r m = ap is_differ (h.told r m) ∙ ap (λ e. is_differ (two_of e)) bytes_agree
      by false m r e = ap is_differ (h.not_read r) ∙ unread_agrees (are_links x.stat y.stat)

-- ---- a row

module _ (law : NodesHavePaths) (pair : Pair) (after : Files) (source dest : List Entry) (found : Findings) (c : WasCompared pair after source dest found)
    (delete : Bool) where
  abbrev l : Side
  l = side pair.source source

  abbrev r : Side
  r = side pair.target dest

  abbrev IsEqualAt : List ℕ → Type 0
  IsEqualAt p = IsEqual delete (get after (grafted pair.source p)) (get after (grafted pair.target p))

  on_both : (row : Row) (missed : Bool) (x y : Entry) → IsRow (Some after) missed (Some x) (Some y) row → FullAt after pair.source row.path x →
      FullAt after pair.target row.path y → IsEqualAt row.path → AgreesAfter delete row
  on_both row missed x y says a b eq =
      let alike : AreAlike a.node.node b.node.node =
      subst (λ o. IsEqual delete (Some a.node.node) o) b.node.there (subst (λ o. IsEqual delete o (get after (grafted pair.target row.path))) a.node.there eq)
      in
      record {
        exist = ap (λ e. is_both e || (not delete && is_only_dest e)) says.exist;
        kind = λ _. ap is_common (says.kind ∙ kind_agrees after pair.source pair.target row.path x y a b alike);
        size = ap is_differ says.size ∙ size_agrees after pair.source pair.target row.path x y a b alike;
        content = content_agrees after pair.source pair.target row.path x y a b alike missed row.content says.content;
      }

  on_dest : (row : Row) (missed : Bool) (y : Entry) → IsRow (Some after) missed None (Some y) row → delete ≡ false → AgreesAfter delete row
  on_dest row missed y says off =
      record {
        exist = ap (λ e. is_both e || (not delete && is_only_dest e)) says.exist ∙ ap (λ d. not d && true) off;
        kind = λ both. absurd (false≢true (ap is_both (sym says.exist) ∙ both));
        size = ap is_differ says.size;
        content = ap is_differ (says.content.not_read refl);
      }

  -- the destination has nothing more, unless nothing was to be removed
  may_have : (p : List ℕ) (m : Node) → IsEqualAt p → get after (grafted pair.source p) ≡ None → get after (grafted pair.target p) ≡ Some m → delete ≡ false
  may_have p m eq none at = by delete (subst (λ o. IsEqual delete None o) at (subst (λ o. IsEqual delete o (get after (grafted pair.target p))) none eq))
    where
      by : (d : Bool) → MayHaveMore d → d ≡ false
      by true h = absurd h
      by false h = refl

  pub row_agrees : (row : Row) → Contains found.rows row → (refusal row.path ≡ None → IsEqualAt row.path) → AgreesAfter delete row
  row_agrees row is_in eq = by (entry_at l row.path) (entry_at r row.path) refl refl
    where
      missed : Bool
      missed = is_missed l r (found.failed ++ found.changed) row.path

      says : IsRow (Some after) missed (entry_at l row.path) (entry_at r row.path) row
      says = All-contains (λ (row : Row). IsRow (Some after) (is_missed l r (found.failed ++ found.changed) row.path) (entry_at l row.path)
          (entry_at r row.path) row) found.rows row c.compared.each is_in

      shown : (is_some (entry_at l row.path) || is_some (entry_at r row.path)) ≡ true
      shown = (and_parts (is_some (entry_at l row.path) || is_some (entry_at r row.path)) (not (is_hidden l row.path || is_hidden r row.path))
          (sym (c.compared.shown row.path) ∙ some_on (λ (other : Row). pointwise nat_eq other.path row.path) found.rows row is_in
          ((bytes_decides row.path row.path).1 refl))).0

      at : (a b : Option Entry) → entry_at l row.path ≡ a → entry_at r row.path ≡ b → IsRow (Some after) missed a b row
      at a b e f = subst (λ x. IsRow (Some after) missed x b row) e (subst (λ y. IsRow (Some after) missed (entry_at l row.path) y row) f says)

      by : (a b : Option Entry) → entry_at l row.path ≡ a → entry_at r row.path ≡ b → AgreesAfter delete row
      by None None e f = absurd (false≢true ((λ i. is_some (sym e i) || is_some (sym f i)) ∙ shown))
      by (Some x) None e f =
          let a = full_at law pair.source source after c.tree c.left row.path x e in
          absurd (lost (get after (grafted pair.target row.path)) refl a)
        where
          lost : (o : Option Node) → get after (grafted pair.target row.path) ≡ o → FullAt after pair.source row.path x → ⊥
          lost None is a = subst (λ o. IsEqual delete (Some a.node.node) o) is
              (subst (λ o. IsEqual delete o (get after (grafted pair.target row.path))) a.node.there (eq a.valid))
          lost (Some m) is a = entry_there pair.target dest after c.right row.path a.valid m is f
      by (Some x) (Some y) e f =
          let a = full_at law pair.source source after c.tree c.left row.path x e in
          let b = full_at law pair.target dest after c.tree c.right row.path y f in
          on_both row missed x y (at (Some x) (Some y) e f) a b (eq a.valid)
      by None (Some y) e f =
          let b = full_at law pair.target dest after c.tree c.right row.path y f in
          on_dest row missed y (at None (Some y) e f) (only (get after (grafted pair.source row.path)) refl b)
        where
          only : (o : Option Node) → get after (grafted pair.source row.path) ≡ o → FullAt after pair.target row.path y → delete ≡ false
          only None is b = may_have row.path b.node.node (eq b.valid) is b.node.there
          only (Some n) is b = absurd (entry_there pair.source source after c.left row.path b.valid n is e)
