-- At each path that is not named, the destination has the like of the source's node.
use Rattle.tree_sync.proofs.Prelude.{◌≡◌, ℕ, Bool, true, false, not, cond, ◌||◌, ◌&&◌, List, [], ◌∷◌, ◌++◌, map, length, filter, Option, Some, None, refl, ap}
use Rattle.tree_sync.proofs.Prelude.{◌∙◌, sym, subst, arith, nat_eq, is_some, ◌==◌, get, All, Contains, list_any, zip, option_map, pointwise, bytes_decides}
use Rattle.tree_sync.proofs.Prelude.{false≢true, false_from_ne_true, and_parts, and_from, or_left, or_right, All-contains, recursion_from_All}
use Rattle.tree_sync.proofs.Prelude.{Any-from_list_any, below_of, grafted, is_within, refusal, below_undoes_graft, below_made, graft_undoes_below, itself}
use Rattle.tree_sync.proofs.Prelude.{Files, Node, NodesHavePaths, bytes_of, content, kind_of, link_at, stat_of, text_of, Kind, Stat, Entry, is_of, is_kind}
use Rattle.tree_sync.proofs.Prelude.{is_fine, paths, Fate, Row, Findings, IsContent, exist_of, is_missed, stat_at, Side, side, entry_at, is_gone, is_hidden}
use Rattle.tree_sync.proofs.Prelude.{SameButChosen, WasChosen, Pair, IsCopied, IsCopyOf, clashes, is_target, target_of, treated, Known, AreAlike, IsEqual}
use Rattle.tree_sync.proofs.Prelude.{MayHaveMore, WasSynced, below_top, is_noted, noted, Results, AreCopied, AreRemoved, agrees, chosen_of, copied_of}
use Rattle.tree_sync.proofs.Prelude.{has_other, is_chosen, is_common, is_copied, is_differ, is_foreign, is_masked, is_only_dest, is_there, row_at, some_same}
use Rattle.tree_sync.proofs.Prelude.{none_some}
use Rattle.outside.specs.declared.trees.Kind.TheVariants as kind
use Rattle.level_work.specs.declared.items.Fate.TheVariants as fate
use Rattle.tree_sync.proofs.Alike.{CopyAt, alike_by, copy_alike, file_size, free_of}
use Rattle.tree_sync.proofs.Apart.{goes_to, none_goes, not_chosen, outside_copied, source_off}
use Rattle.tree_sync.proofs.Both.{HaveBoth, Removal, Says, have_both, kind_eq, row_says}
use Rattle.tree_sync.proofs.Contents.{Pairs, files_same, links_same, others_say}
use Rattle.tree_sync.proofs.Fits.{agreed}
use Rattle.tree_sync.proofs.Members.{in_kept, in_map, next, of_kept, one_off, some_on}
use Rattle.tree_sync.proofs.Named.{NotNamed, RowAt, fate_in, not_hidden, row_there}
use Rattle.tree_sync.proofs.Sided.{Has, HasEntry, IsTold, Stands, TextTold, all_told, entry_of, has_at, has_node, if_some, some_of, stands_at, valid_of}

-- a path that a test of the paths finds is in a row
path_in : (q : List ℕ) (rows : List (List ℕ × Fate)) → list_any (pointwise nat_eq q) (map (λ row. row.0) rows) ≡ true →
    (f : Fate) × Contains rows (q, f)
path_in q [] e = absurd (false≢true e)
path_in q (row ∷ rows) e =
    elim (pointwise nat_eq q row.0) as (λ b. pointwise nat_eq q row.0 ≡ b →
    (b || list_any (pointwise nat_eq q) (map (λ row. row.0) rows)) ≡ true → (f : Fate) × Contains (row ∷ rows) (q, f)) [
      | true ↦ λ s e. (row.1, (0, omega arith, λ j. (sym ((bytes_decides q row.0).0 s) j, row.1)))
      | false ↦ λ s e. let f = path_in q rows e in (f.0, next row rows (q, f.0) f.1)
    ] refl e

-- the node of a path is one
stat_node : (files : Files) (q : List ℕ) (st : Stat) (n : Node) → Stands files q st → get files q ≡ Some n → stat_of n ≡ st
stat_node files q st n s at = ap stat_of (some_same n s.node (sym at ∙ s.there)) ∙ s.stat

module _ (law : NodesHavePaths) (pair : Pair) (source dest : List Entry) (delete : Bool) (done : Results) (before mid after : Files)
    (w : WasSynced pair source dest delete done before after)
    (removed : AreRemoved (chosen_of delete (side pair.source source) (side pair.target dest) w.synced.found.rows) done.removals (Some before) (Some mid))
    (copied : AreCopied (copied_of (side pair.source source) w.synced.found.rows) pair done.copies (Some mid) (Some after))
    (p : List ℕ) (v : refusal p ≡ None) (free : NotNamed pair source dest done p) where
  abbrev l : Side
  l = side pair.source source

  abbrev r : Side
  r = side pair.target dest

  abbrev found : Findings
  found = w.synced.found

  abbrev sp : List ℕ
  sp = grafted pair.source p

  abbrev tp : List ℕ
  tp = grafted pair.target p

  abbrev wanting : Entry → Bool
  wanting e = is_copied l found.rows e

  abbrev below : Entry → List ℕ
  below e = below_of e.path pair.source

  known : Known pair source dest
  known = record { can = w.can; from = w.from; to = w.to }

  removal : Removal pair source dest delete found before mid
  removal = record {
    known = known;
    fits = w.fits;
    compared = w.synced.compared;
    others = subst (λ qs. SameButChosen qs before mid) removed.paths removed.removed.others;
  }

  told : All (IsTold before pair.source) source
  told = all_told before pair.source source w.can.left w.fits.left

  -- the source is as it was
  mid_source : (q : List ℕ) → is_within q pair.source ≡ true → get mid q ≡ get before q
  mid_source q s = removal.others q (not_chosen pair source dest known delete found.rows q (source_off pair source dest known q s))

  in_source : is_within sp pair.source ≡ true
  in_source = below_undoes_graft.within pair.source p v

  same_source : get after sp ≡ get before sp
  same_source = outside_copied pair source dest known law delete found.rows before mid after w.tree w.fits.left removal.others copied.copied.others sp
      (source_off pair source dest known sp in_source)

  -- ---- an entry that is copied to a path at or over this one came to `Done`

  copy_done : (e : Entry) → Contains source e → wanting e ≡ true → is_within p (below e) ≡ true → IsCopied mid after (pair ∷ []) done.copies e fate.Done
  copy_done e c is over =
      let within = (All-contains (IsTold before pair.source) source e told c).within in
      let some = (and_parts (is_some e.stat) (not (agrees e.stat (row_at found.rows (below e)))) is).0 in
      let Q : Entry × (List ℕ × Fate) → Type 0 = λ one. IsCopied mid after (pair ∷ []) done.copies one.0 one.1.1 in
      let in_copied : Contains (copied_of l found.rows) e = subst (λ b. Contains (cond b (filter wanting source) []) e) (sym w.there)
      (in_kept wanting source e c is) in
      let f = fate_in Q (treated (copied_of l found.rows)) done.copies e copied.paths
      (recursion_from_All Q (zip (treated (copied_of l found.rows)) done.copies) copied.copied.each)
      (in_kept (λ (e : Entry). is_some e.stat) (copied_of l found.rows) e in_copied some) in
      subst (IsCopied mid after (pair ∷ []) done.copies e)
      (free.copies e.path f.fate f.is_in (ap (λ b. is_within p (cond b (below e) (below_of e.path pair.target))) within ∙ over)) f.holds

  -- its target is a copy
  copy_left : (e : Entry) (st : Stat) → e.stat ≡ Some st → IsCopied mid after (pair ∷ []) done.copies e fate.Done →
      IsCopyOf st.kind (get mid e.path) (get mid (target_of (pair ∷ []) e.path)) (get after (target_of (pair ∷ []) e.path))
  copy_left e st is holds =
      if_some (λ stat. IsCopyOf stat.kind (get mid e.path) (get mid (target_of (pair ∷ []) e.path)) (get after (target_of (pair ∷ []) e.path)))
      e.stat st is holds.left

  -- ---- where no entry that is copied has this path, nothing is copied to it

  below_is : (e : Entry) → refusal e.path ≡ None → is_within e.path pair.source ≡ true → pointwise nat_eq tp (target_of (pair ∷ []) e.path) ≡ true →
      below e ≡ p
  below_is e valid s same =
      let to : tp ≡ grafted pair.target (below e) = (bytes_decides tp (target_of (pair ∷ []) e.path)).0 same ∙ goes_to pair source dest known e.path s in
      sym (below_undoes_graft.back pair.target (below e) (below_made e.path pair.source (below e) refl valid s)) ∙ ap (λ x. below_of x pair.target) (sym to)
      ∙ below_undoes_graft.back pair.target p v

  no_target : ((e : Entry) → wanting e ≡ true → IsTold before pair.source e → below e ≡ p → ⊥) → is_target (pair ∷ []) (copied_of l found.rows) tp ≡ false
  no_target none =
      none_goes pair tp (copied_of l found.rows)
      (of_kept (is_there l) wanting (IsTold before pair.source) (λ e. pointwise nat_eq tp (target_of (pair ∷ []) e.path) ≡ false) source
      (λ e is t. false_from_ne_true (pointwise nat_eq tp (target_of (pair ∷ []) e.path)) (λ same.
      let some = (and_parts (is_some e.stat) (not (agrees e.stat (row_at found.rows (below e)))) is).0 in
      none e is t (below_is e (valid_of law before w.tree e some t.stat) t.within same))) told)

  -- an entry of this path tells the node there
  own_stat : (e : Entry) → IsTold before pair.source e → is_some e.stat ≡ true → below e ≡ p → option_map stat_of (get before sp) ≡ e.stat
  own_stat e t some b =
      let st = some_of e.stat some in
      let s = stands_at before e st.0 st.1 t.stat in
      let path : e.path ≡ sp = sym (graft_undoes_below e.path pair.source t.within) ∙ ap (grafted pair.source) b in
      ap (λ q. option_map stat_of (get before q)) (sym path) ∙ ap (option_map stat_of) s.there ∙ ap Some s.stat ∙ sym st.1

  -- ---- the row

  row_for : (is_some (entry_at l p) || is_some (entry_at r p)) ≡ true → RowAt found.rows p
  row_for some = row_there found.rows p (w.synced.compared.shown p
      ∙ and_from (is_some (entry_at l p) || is_some (entry_at r p)) (not (is_hidden l p || is_hidden r p)) some
      (λ i. not (not_hidden l p free.left i || not_hidden r p free.right i)))

  says : (row : Row) → row_at found.rows p ≡ Some row → Says (Some before) l r found p row
  says row at = row_says (Some before) l r found w.synced.compared p row at

  -- ---- it is kept

  abbrev missed : Bool
  missed = is_missed l r (found.failed ++ found.changed) p

  content_says : (row : Row) → row_at found.rows p ≡ Some row → (b : HaveBoth l r before mid p) →
      IsContent (Some before) missed (Some b.left.entry) (Some b.right.entry) row.content
  content_says row at b =
      subst (λ x. IsContent (Some before) missed x (Some b.right.entry) row.content) b.left.at
      (subst (λ y. IsContent (Some before) missed (entry_at l p) y row.content) b.right.at (says row at).content)

  both_alike : (row : Row) → row_at found.rows p ≡ Some row → (b : HaveBoth l r before mid p) → (is_of kind.Dir (Some b.one) || is_common row.content) ≡ true →
      AreAlike b.source.node b.target.node
  both_alike row at b same = alike_by n m kinds files links
    where
      n : Node
      n = b.source.node

      m : Node
      m = b.target.node

      kind_one : b.one.kind ≡ kind_of n.body
      kind_one = ap (λ (x : Stat). x.kind) (sym b.source.stat)

      kind_two : b.two.kind ≡ kind_of n.body
      kind_two = sym b.same ∙ kind_one

      kinds : kind_of m.body ≡ kind_of n.body
      kinds = ap (λ (x : Stat). x.kind) b.target.stat ∙ kind_two

      at_one : get before b.left.entry.path ≡ Some n
      at_one = ap (get before) b.left.path ∙ b.source.there

      at_two : get before b.right.entry.path ≡ Some m
      at_two = ap (get before) b.right.path ∙ b.target.there

      second : (a c : Bool) → a ≡ false → (a || c) ≡ true → c ≡ true
      second true c e f = absurd (false≢true (sym e))
      second false c e f = f

      -- both entries are of the kind that the nodes have
      pairs : (k : Kind) → kind_of n.body ≡ k → Pairs before missed b.left.entry b.right.entry k k row.content
      pairs k is = record {
        one = b.one;
        two = b.two;
        first = b.left.stat;
        second = b.right.stat;
        kind_one = kind_one ∙ is;
        kind_two = kind_two ∙ is;
        says = content_says row at b;
      }

      files : kind_of n.body ≡ kind.File → bytes_of m.body ≡ bytes_of n.body
      files k =
          let common = second (is_of kind.Dir (Some b.one)) (is_common row.content) (ap (is_kind kind.Dir) (kind_one ∙ k)) same in
          let size_one : b.one.size ≡ length (content (get before b.left.entry.path)) =
          ap (λ (x : Stat). x.size) (sym b.source.stat) ∙ file_size n.body k ∙ sym (ap (λ o. length (content o)) at_one)
          in
          let size_two : b.two.size ≡ length (content (get before b.right.entry.path)) =
          ap (λ (x : Stat). x.size) (sym b.target.stat) ∙ file_size m.body (kinds ∙ k) ∙ sym (ap (λ o. length (content o)) at_two)
          in
          sym (sym (ap content at_one)
          ∙ files_same before missed b.left.entry b.right.entry row.content (pairs kind.File k) size_one size_two common ∙ ap content at_two)

      links : kind_of n.body ≡ kind.Link → text_of m.body ≡ text_of n.body
      links k =
          let common = second (is_of kind.Dir (Some b.one)) (is_common row.content) (ap (is_kind kind.Dir) (kind_one ∙ k)) same in
          let t = links_same before missed b.left.entry b.right.entry row.content (pairs kind.Link k) common in
          let told_one = if_some (λ text. link_at (get before b.left.entry.path) ≡ Some text) b.left.entry.target t.text t.first
          (All-contains (TextTold before) source b.left.entry w.fits.left.targets b.left.is_in) in
          let told_two = if_some (λ text. link_at (get before b.right.entry.path) ≡ Some text) b.right.entry.target t.text t.second
          (All-contains (TextTold before) dest b.right.entry w.fits.right.targets b.right.is_in) in
          sym (ap link_at at_two) ∙ told_two ∙ sym told_one ∙ ap link_at at_one

  kept : (row : Row) (st : Stat) (n : Node) → row_at found.rows p ≡ Some row → stat_at (entry_at l p) ≡ Some st → get before sp ≡ Some n →
      agrees (Some st) (Some row) ≡ true → CopyAt n (get after tp)
  kept row st n at own here agree =
      let a = agreed (Some st) row agree in
      let b = have_both pair source dest delete found before mid removal p row v at a.both a.kinds in
      let one : b.one ≡ st = some_same b.one st (sym (ap stat_at b.left.at ∙ b.left.stat) ∙ own) in
      let same : b.source.node ≡ n = some_same b.source.node n (sym b.source.there ∙ here) in
      let off = no_target (λ e is t below_p.
      let some = and_parts (is_some e.stat) (not (agrees e.stat (row_at found.rows (below e)))) is in
      let stat : e.stat ≡ Some st = sym (own_stat e t some.0 below_p) ∙ ap (option_map stat_of) b.source.there ∙ ap Some (b.source.stat ∙ one) in
      let agree_e : agrees e.stat (row_at found.rows (below e)) ≡ true =
      (λ i. agrees (stat i) ((ap (row_at found.rows) below_p ∙ at) i)) ∙ agree
      in
      false≢true (sym (ap not agree_e) ∙ some.1)) in
      record {
        node = b.target.node;
        there = copied.copied.others tp off ∙ b.stays ∙ b.target.there;
        alike = subst (λ x. AreAlike x b.target.node) same (both_alike row at b (ap (λ s. is_of kind.Dir (Some s) || is_common row.content) one ∙ a.content));
      }

  -- ---- it is copied

  wanted : (row : Row) (st : Stat) (n : Node) → row_at found.rows p ≡ Some row → stat_at (entry_at l p) ≡ Some st → get before sp ≡ Some n →
      agrees (Some st) (Some row) ≡ false → CopyAt n (get after tp)
  wanted row st n at own here differ =
      let h = has_at l w.can.left p st own in
      let e = h.entry in
      let within = (All-contains (IsTold before pair.source) source e told h.is_in).within in
      let apart : agrees e.stat (row_at found.rows (below e)) ≡ false = (λ i. agrees (h.stat i) ((ap (row_at found.rows) h.below ∙ at) i)) ∙ differ in
      let is : wanting e ≡ true = and_from (is_some e.stat) (not (agrees e.stat (row_at found.rows (below e)))) (ap is_some h.stat) (ap not apart) in
      let holds = copy_done e h.is_in is (ap (is_within p) h.below ∙ itself p) in
      let to : target_of (pair ∷ []) e.path ≡ tp = goes_to pair source dest known e.path within ∙ ap (grafted pair.target) h.below in
      let was : get mid e.path ≡ Some n = mid_source e.path within ∙ ap (get before) h.path ∙ here in
      let clear : clashes (Some st) (get mid tp) ≡ false =
      (λ i. clashes (sym h.stat i) (get mid (sym to i))) ∙ free_of mid after (pair ∷ []) done.copies e holds
      in
      let copy : IsCopyOf st.kind (Some n) (get mid tp) (get after tp) =
      subst (λ o. IsCopyOf st.kind o (get mid tp) (get after tp)) was
      (subst (λ q. IsCopyOf st.kind (get mid e.path) (get mid q) (get after q)) to (copy_left e st h.stat holds))
      in
      let stands = has_node l before w.fits.left p st h in
      copy_alike n st (ap (λ (x : Stat). x.kind) (stat_node before sp st n stands here)) (get mid tp) (get after tp) copy clear

  -- so where the source has something, the destination has the like
  has_copy : (n : Node) → get before sp ≡ Some n → CopyAt n (get after tp)
  has_copy n here =
      let own = some_of (stat_at (entry_at l p)) (w.left p v (ap is_some here) free.left) in
      let row = row_for (or_left (is_some (entry_at l p)) (is_some (entry_at r p)) (has_some (entry_at l p) own.0 own.1)) in
      elim (agrees (Some own.0) (Some row.row)) as (λ b. agrees (Some own.0) (Some row.row) ≡ b → CopyAt n (get after tp)) [
        | true ↦ λ a. kept row.row own.0 n row.at own.1 here a
        | false ↦ λ a. wanted row.row own.0 n row.at own.1 here a
      ] refl
    where
      has_some : (o : Option Entry) (st : Stat) → stat_at o ≡ Some st → is_some o ≡ true
      has_some None st e = absurd (cc)
      has_some (Some x) st e = refl

  -- ---- the source has nothing at the path

  none_told : get before sp ≡ None → (st : Stat) → stat_at (entry_at l p) ≡ Some st → ⊥
  none_told none st own =
      let s = has_node l before w.fits.left p st (has_at l w.can.left p st own) in
      none_some s.node (sym none ∙ s.there)

  -- an entry there without a stat would be named
  no_entry : get before sp ≡ None → is_some (entry_at l p) ≡ false
  no_entry none = by (entry_at l p) refl
    where
      noted_at : (x : Entry) → HasEntry l p x → x.stat ≡ None → ⊥
      noted_at x h s =
          let n : is_noted x ≡ true = and_from (not (is_gone x.mark)) (not (is_some x.stat && is_fine x.mark) || not (x.unnamed == 0 && x.far == 0))
          (ap not h.there) (ap (λ o. not (is_some o && is_fine x.mark) || not (x.unnamed == 0 && x.far == 0)) s) in
          false≢true (sym (one_off (is_within p) (noted l) (below x) free.left (in_map (λ (e : Entry). below_of e.path pair.source) (filter is_noted source) x
          (in_kept is_noted source x h.is_in n))) ∙ ap (is_within p) h.below ∙ itself p)

      by_stat : (x : Entry) → entry_at l p ≡ Some x → (o : Option Stat) → x.stat ≡ o → ⊥
      by_stat x e None s = noted_at x (entry_of l w.can.left p x e) s
      by_stat x e (Some st) s = none_told none st (ap stat_at e ∙ s)

      by : (o : Option Entry) → entry_at l p ≡ o → is_some o ≡ false
      by None e = refl
      by (Some x) e = absurd (by_stat x e x.stat refl)

  -- ---- nothing that is never copied is over the path

  -- where the source has an other, no row agrees
  other_differs : (e : Entry) → IsTold before pair.source e → (st : Stat) → e.stat ≡ Some st → st.kind ≡ kind.Other →
      agrees e.stat (row_at found.rows (below e)) ≡ false
  other_differs e t st is other =
      false_from_ne_true (agrees e.stat (row_at found.rows (below e)))
      (λ a. by (row_at found.rows (below e)) refl (ap (λ s. agrees s (row_at found.rows (below e))) (sym is) ∙ a))
    where
      q_valid : refusal (below e) ≡ None
      q_valid = below_made e.path pair.source (below e) refl (valid_of law before w.tree e (ap is_some is) t.stat) t.within

      by : (o : Option Row) → row_at found.rows (below e) ≡ o → agrees (Some st) o ≡ true → ⊥
      by None at a = false≢true a
      by (Some row) at a =
          let g = agreed (Some st) row a in
          let b = have_both pair source dest delete found before mid removal (below e) row q_valid at g.both g.kinds in
          let own = stands_at before e st is t.stat in
          let path : grafted pair.source (below e) ≡ e.path = graft_undoes_below e.path pair.source t.within in
          let same : b.one ≡ st =
          sym (stat_node before (grafted pair.source (below e)) b.one own.node b.source (ap (get before) path ∙ own.there)) ∙ own.stat
          in
          let lost = is_missed l r (found.failed ++ found.changed) (below e) in
          let says = row_says (Some before) l r found w.synced.compared (below e) row at in
          let nothing = others_say before lost b.left.entry b.right.entry row.content b.two.kind (record {
            one = b.one;
            two = b.two;
            first = b.left.stat;
            second = b.right.stat;
            kind_one = ap (λ (x : Stat). x.kind) same ∙ other;
            kind_two = refl;
            says = subst (λ x. IsContent (Some before) lost x (Some b.right.entry) row.content) b.left.at
                (subst (λ y. IsContent (Some before) lost (entry_at l (below e)) y row.content) b.right.at says.content);
          }) in
          let content : (is_of kind.Dir (Some st) || is_common row.content) ≡ false = (λ i. is_kind kind.Dir (other i) || is_common (nothing i)) in
          false≢true (sym content ∙ g.content)

  not_masked : is_masked l p ≡ false
  not_masked = false_from_ne_true (is_masked l p) (λ m.
      let any = Any-from_list_any (λ (e : Entry). has_other e && is_within p (below e)) source m in
      let so = and_parts (has_other any.1) (is_within p (below any.1)) any.4 in
      by any.1 (any.0, any.2, any.3) (and_parts (not (is_gone any.1.mark)) (is_of kind.Other any.1.stat) so.0).1 so.1)
    where
      by : (e : Entry) → Contains source e → is_of kind.Other e.stat ≡ true → is_within p (below e) ≡ true → ⊥
      by e c o over =
          let t = All-contains (IsTold before pair.source) source e told c in
          let st = other_stat e.stat o in
          let is : wanting e ≡ true = and_from (is_some e.stat) (not (agrees e.stat (row_at found.rows (below e)))) (ap is_some st.1)
          (ap not (other_differs e t st.0 st.1 st.2)) in
          subst (λ k. IsCopyOf k (get mid e.path) (get mid (target_of (pair ∷ []) e.path)) (get after (target_of (pair ∷ []) e.path))) st.2
          (copy_left e st.0 st.1 (copy_done e c is over))
        where
          other_stat : (s : Option Stat) → is_of kind.Other s ≡ true → (st : Stat) × (s ≡ Some st) × (st.kind ≡ kind.Other)
          other_stat None e = absurd (false≢true e)
          other_stat (Some st) e = (st, refl, sym (kind_eq kind.Other st.kind e))

  -- ---- so the destination has nothing there once foreign entries are removed

  -- the destination's entry there is chosen
  is_foreign_here : get before sp ≡ None → (st : Stat) → (h : Has r p st) → Contains (filter (is_chosen l r found.rows) dest) h.entry
  is_foreign_here none st h =
      let e = h.entry in
      let some : is_some (entry_at r p) ≡ true = ap is_some h.at in
      let row = row_for (or_right (is_some (entry_at l p)) (is_some (entry_at r p)) some) in
      let only : row.row.exist ≡ exist_of false true = (says row.row row.at).exist ∙ (λ i. exist_of (no_entry none i) (some i)) in
      let foreign : is_foreign (row_at found.rows (below_of e.path pair.target)) ≡ true =
      ap is_foreign (ap (row_at found.rows) h.below ∙ row.at) ∙ ap (λ x. is_only_dest x || is_differ row.row.kind) only
      in
      in_kept (is_chosen l r found.rows) dest e h.is_in
      (and_from (is_some e.stat) (is_foreign (row_at found.rows (below_of e.path pair.target)) && not (is_masked l (below_of e.path pair.target)))
      (ap is_some h.stat)
      (and_from (is_foreign (row_at found.rows (below_of e.path pair.target))) (not (is_masked l (below_of e.path pair.target))) foreign
      (ap not (ap (is_masked l) h.below ∙ not_masked))))

  -- so its path is among those of the removals
  among_removals : delete ≡ true → get before sp ≡ None → (m : Node) → get before tp ≡ Some m →
      list_any (pointwise nat_eq tp) (map (λ (row : List ℕ × Fate). row.0) done.removals) ≡ true
  among_removals del none m at =
      let own = some_of (stat_at (entry_at r p)) (w.right p v (ap is_some at) free.right) in
      let h = has_at r w.can.right p own.0 own.1 in
      let chosen : Contains (chosen_of delete l r found.rows) h.entry =
      subst (λ b. Contains (cond b (filter (is_chosen l r found.rows) dest) []) h.entry) (sym (λ i. del i && w.there i)) (is_foreign_here none own.0 h)
      in
      ap (list_any (pointwise nat_eq tp)) removed.paths
      ∙ some_on (pointwise nat_eq tp) (paths (chosen_of delete l r found.rows)) h.entry.path
      (in_map (λ (e : Entry). e.path) (chosen_of delete l r found.rows) h.entry chosen) ((bytes_decides tp h.entry.path).1 (sym h.path))

  over_target : is_within p (below_top pair tp) ≡ true
  over_target =
      let off : is_within tp pair.source ≡ false = false_from_ne_true (is_within tp pair.source) (λ s.
      false≢true (sym (source_off pair source dest known tp s) ∙ below_undoes_graft.within pair.target p v)) in
      ap (λ b. is_within p (cond b (below_of tp pair.source) (below_of tp pair.target))) off ∙ ap (is_within p) (below_undoes_graft.back pair.target p v)
      ∙ itself p

  nothing_more : delete ≡ true → get before sp ≡ None → (m : Node) → get after tp ≡ Some m → ⊥
  nothing_more del none m at =
      let off : is_target (pair ∷ []) (copied_of l found.rows) tp ≡ false = no_target (λ e is t b.
      let some = (and_parts (is_some e.stat) (not (agrees e.stat (row_at found.rows (below e)))) is).0 in
      false≢true (ap is_some (sym (ap (option_map stat_of) none) ∙ own_stat e t some b) ∙ some)) in
      let at_mid : get mid tp ≡ Some m = sym (copied.copied.others tp off) ∙ at in
      elim (list_any (pointwise nat_eq tp) (map (λ (row : List ℕ × Fate). row.0) done.removals)) as
      (λ b. list_any (pointwise nat_eq tp) (map (λ (row : List ℕ × Fate). row.0) done.removals) ≡ b → ⊥) [
        | true ↦ λ e.
            let f = path_in tp done.removals e in
            let was = All-contains (λ (row : List ℕ × Fate). WasChosen before mid row.0 row.1) done.removals (tp, f.0) removed.removed.each f.1 in
            none_some m (sym (was.gone (free.removals tp f.0 f.1 over_target)) ∙ at_mid)
        | false ↦ λ e.
            false≢true (sym e ∙ among_removals del none m (sym (removed.removed.others tp e) ∙ at_mid))
      ] refl

  pub is_equal : IsEqual delete (get after sp) (get after tp)
  is_equal = by (get after sp) (get after tp) refl refl
    where
      by : (s t : Option Node) → get after sp ≡ s → get after tp ≡ t → IsEqual delete s t
      by (Some n) None at bt = absurd (let c = has_copy n (sym same_source ∙ at) in none_some c.node (sym bt ∙ c.there))
      by (Some n) (Some m) at bt =
          let c = has_copy n (sym same_source ∙ at) in subst (AreAlike n) (some_same c.node m (sym c.there ∙ bt)) c.alike
      by None None at bt = tt
      by None (Some m) at bt = more delete refl
        where
          more : (b : Bool) → delete ≡ b → MayHaveMore b
          more true d = absurd (nothing_more d (sym same_source ∙ at) m bt)
          more false d = tt
