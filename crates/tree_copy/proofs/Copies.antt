-- Work from the top down by copiers copies: each entry has the fate that is due, and its target what that fate says.
use Rattle.tree_copy.proofs.Prelude.{◌≡◌, ◌≢◌, ◌⊎◌, inl, inr, ℕ, ◌<◌, Bool, true, false, not, cond, ◌&&◌, List, [], ◌∷◌, length, take, Option, Some, None}
use Rattle.tree_copy.proofs.Prelude.{IfSome, refl, ap, ◌∙◌, sym, subst, arith, is_some, is_none, false≢true, take_all, All-from_recursion, recursion_from_All}
use Rattle.tree_copy.proofs.Prelude.{get, get-insert, get-remove, AllByRecursion, zip, option_map, path_cmp_total, path_cmp_ties, Files, Node, Body, dir, file}
use Rattle.tree_copy.proofs.Prelude.{link, other, is_dir, is_dir_body, is_file, is_file_body, content, link_at, stat_of, text_of, empty_dir, new_file, new_link}
use Rattle.tree_copy.proofs.Prelude.{Kind, Stat, Entry, is_kind, is_of, size_by, at_and_under, Acted, SameButItems, found, is_item, left, with_at, Item, Fate}
use Rattle.tree_copy.proofs.Prelude.{Pair, Copied, FitsTree, IsCopied, IsCopyOf, IsLeft, SameButTargets, clashes, due, early, is_untold, may_fail, or_else}
use Rattle.tree_copy.proofs.Prelude.{target_of, treated, CopyKind, CopyOne, CopyTold, Differ, LeaveLink, LinkBy, MakeDir, MakeFile, MakeLink, PassOver, is_link}
use Rattle.tree_copy.proofs.Prelude.{is_other, item_of, items_of, settled, settled_by, get_here, at_itself, same_some}
use Rattle.outside.specs.Tree.{kind_of}
use Rattle.outside.specs.declared.trees.Kind.TheVariants as kind
use Rattle.level_work.specs.declared.items.Fate.TheVariants as fate
use Rattle.level_work.specs.declared.items.Order.TheVariants as order
use Rattle.tree_copy.proofs.Comes.{Comes, Row, long, skipped_by, tried, under}
use Rattle.tree_copy.proofs.Fits.{far_no_item, no_item, no_room_of}
use Rattle.tree_copy.proofs.Puts.{put_here}

-- what an item finds and leaves at its path

get_with : (p : List ℕ) (o : Option Node) (files : Files) → get (with_at p o files) p ≡ o
get_with p None files = get-remove path_cmp_total files p p ∙ ap (λ b. cond b None (get files p)) (sym (path_cmp_ties p p) ∙ at_itself p)
get_with p (Some n) files = get-insert path_cmp_total files p n p ∙ ap (λ b. cond b (Some n) (get files p)) (sym (path_cmp_ties p p) ∙ at_itself p)

left_here : (p : List ℕ) (before after : Files) → get (left order.TopDown p before after) p ≡ get after p
left_here p before after = get_with p (get after p) (at_and_under p before)

same_here : (p : List ℕ) (before after : Files) → left order.TopDown p before after ≡ found order.TopDown p before after → get after p ≡ get before p
same_here p before after e = sym (left_here p before after) ∙ ap (λ m. get m p) e ∙ get_here p before

none_not : {X : Type 0} (o : Option X) → is_some o ≡ true → o ≡ None → ⊥
none_not o s e = false≢true (sym (ap is_some e) ∙ s)

-- the nodes at source and target, with the fate of the item: what is known of a directory, a file or a link that is copied. `untold`
-- says that a link's text is not known

abbrev clash : Kind → Option Node → Bool
clash k None = false
clash k (Some n) = not (is_kind (kind_of n.body) k)

abbrev Told : (untold : Bool) → Kind → (source old new : Option Node) → Fate → Type 0
Told u k source old new fate.Done = (clash k old ≡ false) × (u ≡ false) × IsCopyOf k source old new
Told u k source old new fate.Conflict = (clash k old ≡ true) × (new ≡ old)
Told u k source old new fate.Changed = (clash k old ≡ false) × (u ≡ true) × (new ≡ old)
Told u k source old new fate.Failed = Unit {0}
Told u k source old new fate.Skipped = ⊥
Told u k source old new fate.NotEmpty = ⊥
Told u k source old new fate.TooLong = ⊥
Told u k source old new fate.ParentFailed = ⊥

-- the bodies that are in the way of a node of a kind
body_clash : (b : Body) → (not (is_kind (kind_of b) kind.Dir) ≡ not (is_dir_body b)) × (not (is_kind (kind_of b) kind.File) ≡ not (is_file_body b))
    × (not (is_kind (kind_of b) kind.Link) ≡ not (is_some (text_of b)))
body_clash (dir far) = (refl, refl, refl)
body_clash (file bytes) = (refl, refl, refl)
body_clash (link text) = (refl, refl, refl)
body_clash other = (refl, refl, refl)

dir_clash : (o : Option Node) → is_some o ≡ true → clash kind.Dir o ≡ not (is_dir o)
dir_clash None s = absurd (false≢true s)
dir_clash (Some n) s = (body_clash n.body).0

file_clash : (o : Option Node) → is_some o ≡ true → clash kind.File o ≡ not (is_file o)
file_clash None s = absurd (false≢true s)
file_clash (Some n) s = (body_clash n.body).1

link_clash : (o : Option Node) → is_some o ≡ true → clash kind.Link o ≡ not (is_link o)
link_clash None s = absurd (false≢true s)
link_clash (Some n) s = (body_clash n.body).2

link_some : (o : Option Node) → is_link o ≡ true → is_some o ≡ true
link_some None e = absurd (false≢true e)
link_some (Some n) e = refl

-- a directory is neither a file nor a link
dir_alone : (o : Option Node) → is_dir o ≡ true → (is_file o ≡ false) × (is_link o ≡ false)
dir_alone None d = absurd (false≢true d)
dir_alone (Some n) d = by n.body d
  where
    by : (b : Body) → Rattle.outside.specs.Tree.is_dir_body b ≡ true →
        (Rattle.outside.specs.Tree.is_file_body b ≡ false) × (is_some (Rattle.outside.specs.Tree.text_of b) ≡ false)
    by (dir far) d = (refl, refl)
    by (file bytes) d = absurd (false≢true d)
    by (link text) d = absurd (false≢true d)
    by other d = absurd (false≢true d)

file_some : (o : Option Node) → is_file o ≡ true → is_some o ≡ true
file_some None e = absurd (false≢true e)
file_some (Some n) e = refl

kept_dir : (source o : Option Node) → is_some o ≡ true → IsCopyOf kind.Dir source o o
kept_dir source None s = absurd (false≢true s)
kept_dir source (Some n) s = refl

module _ (before after : Files) (e : Entry) (p : List ℕ) where
  there : is_some (get (found order.TopDown p before after) p) ≡ true → is_some (get before p) ≡ true
  there s = ap is_some (sym (get_here p before)) ∙ s

  dir_told : (g : Fate) → g ≢ fate.ParentFailed → MakeDir before p e g (found order.TopDown p before after) (left order.TopDown p before after) →
      Told false kind.Dir (get before e.path) (get before p) (get after p) g
  dir_told fate.Done off (inl d) =
      let none : get before p ≡ None = sym (get_here p before) ∙ d.0 in
      let is : get after p ≡ Some empty_dir = sym (left_here p before after) ∙ ap (λ m. get m p) d.1
      ∙ put_here p empty_dir (found order.TopDown p before after) in (
        ap (clash kind.Dir) none,
        refl,
        subst (λ o. IsCopyOf kind.Dir (get before e.path) o (get after p)) (sym none) (ap (option_map (λ (n : Node). n.body)) is),
      )
  dir_told fate.Done off (inr d) =
      let some = there d.0 in (
        dir_clash (get before p) some ∙ ap not d.1,
        refl,
        subst (λ o. IsCopyOf kind.Dir (get before e.path) (get before p) o) (sym (same_here p before after d.2))
            (kept_dir (get before e.path) (get before p) some),
      )
  dir_told fate.Conflict off d = (dir_clash (get before p) (there d.0) ∙ ap not d.2, same_here p before after d.3)
  dir_told fate.Failed off d = tt
  dir_told fate.Changed off d = absurd (none_not (get before p) (there d.0) d.1)
  dir_told fate.Skipped off d = absurd d
  dir_told fate.NotEmpty off d = absurd d
  dir_told fate.TooLong off d = absurd d
  dir_told fate.ParentFailed off d = absurd d

  no_clash : (get (found order.TopDown p before after) p ≡ None) ⊎ (is_file (get before p) ≡ true) → clash kind.File (get before p) ≡ false
  no_clash (inl n) = ap (clash kind.File) (sym (get_here p before) ∙ n)
  no_clash (inr f) = file_clash (get before p) (file_some (get before p) f) ∙ ap not f

  no_change : size_by e.stat ≡ length (content (get before e.path)) → (length (content (get before e.path)) < size_by e.stat) ⊎ Differ is_file before p
      (found order.TopDown p before after) → ⊥
  no_change size (inl l) = absurd (omega (arith, l, size))
  no_change size (inr (s, inl n)) = none_not (get before p) (there s) n
  no_change size (inr (s, inr d)) = false≢true (sym (dir_alone (get before p) (ap is_dir (sym (get_here p before)) ∙ d.0)).0 ∙ d.1)

  file_told : size_by e.stat ≡ length (content (get before e.path)) → (g : Fate) → g ≢ fate.ParentFailed →
      MakeFile before p e g (found order.TopDown p before after) (left order.TopDown p before after) →
      Told false kind.File (get before e.path) (get before p) (get after p) g
  file_told size fate.Done off d =
      let source = content (get before e.path) in
      let whole : take (size_by e.stat) source ≡ source = take_all (size_by e.stat) source (omega (arith, size)) in
      let is : get after p ≡ Some (new_file source) = sym (left_here p before after) ∙ d.1.has ∙ ap (λ bytes. Some (new_file bytes)) whole in
      (no_clash d.0, refl, ap (option_map (λ (n : Node). n.body)) is)
  file_told size fate.Conflict off d = (file_clash (get before p) (there d.0) ∙ ap not d.2, same_here p before after d.3)
  file_told size fate.Failed off d = tt
  file_told size fate.Changed off d = absurd (no_change size d)
  file_told size fate.Skipped off d = absurd d
  file_told size fate.NotEmpty off d = absurd d
  file_told size fate.TooLong off d = absurd d
  file_told size fate.ParentFailed off d = absurd d

  -- nothing but a link is in the way of a link
  link_free : (get before p ≡ None) ⊎ (is_link (get before p) ≡ true) → clash kind.Link (get before p) ≡ false
  link_free (inl n) = ap (clash kind.Link) n
  link_free (inr l) = link_clash (get before p) (link_some (get before p) l) ∙ ap not l

  was : (get (found order.TopDown p before after) p ≡ None) ⊎ (is_link (get before p) ≡ true) →
      (get before p ≡ None) ⊎ (is_link (get before p) ≡ true)
  was (inl n) = inl (sym (get_here p before) ∙ n)
  was (inr l) = inr l

  no_difference : Differ is_link before p (found order.TopDown p before after) → ⊥
  no_difference (s, inl n) = none_not (get before p) (there s) n
  no_difference (s, inr d) = false≢true (sym (dir_alone (get before p) (ap is_dir (sym (get_here p before)) ∙ d.0)).1 ∙ d.1)

  made_link : (text : List ℕ) → link_at (get before e.path) ≡ Some text → (g : Fate) →
      MakeLink text before p e g (found order.TopDown p before after) (left order.TopDown p before after) →
      Told false kind.Link (get before e.path) (get before p) (get after p) g
  made_link text known fate.Done d =
      let is : get after p ≡ Some (new_link text) = sym (left_here p before after) ∙ d.1 in
      (link_free (was d.0), refl, (ap is_some known, ap link_at is ∙ sym known))
  made_link text known fate.Conflict d = (link_clash (get before p) (there d.0) ∙ ap not d.2, same_here p before after d.3)
  made_link text known fate.Changed d = absurd (no_difference d)
  made_link text known fate.Failed d = tt
  made_link text known fate.Skipped d = absurd d
  made_link text known fate.NotEmpty d = absurd d
  made_link text known fate.TooLong d = absurd d
  made_link text known fate.ParentFailed d = absurd d

  left_link : (g : Fate) → LeaveLink before p e g (found order.TopDown p before after) (left order.TopDown p before after) →
      Told true kind.Link (get before e.path) (get before p) (get after p) g
  left_link fate.Conflict d = (link_clash (get before p) d.0 ∙ ap not d.1, same_here p before after d.2)
  left_link fate.Changed d = (link_free d.0, refl, same_here p before after d.1)
  left_link fate.Failed d = tt
  left_link fate.Done d = absurd d
  left_link fate.Skipped d = absurd d
  left_link fate.NotEmpty d = absurd d
  left_link fate.TooLong d = absurd d
  left_link fate.ParentFailed d = absurd d

  link_told : (target : Option (List ℕ)) → IfSome target (λ text. link_at (get before e.path) ≡ Some text) → (g : Fate) →
      LinkBy target before p e g (found order.TopDown p before after) (left order.TopDown p before after) →
      Told (is_none target) kind.Link (get before e.path) (get before p) (get after p) g
  link_told None known g d = left_link g d
  link_told (Some text) known g d = made_link text known g d

  passed_over : (g : Fate) → g ≢ fate.ParentFailed → PassOver p e g (found order.TopDown p before after) (left order.TopDown p before after) →
      get after p ≡ get before p
  passed_over fate.Skipped off d = same_here p before after d
  passed_over fate.Done off d = absurd d
  passed_over fate.Failed off d = absurd d
  passed_over fate.Conflict off d = absurd d
  passed_over fate.Changed off d = absurd d
  passed_over fate.NotEmpty off d = absurd d
  passed_over fate.TooLong off d = absurd d
  passed_over fate.ParentFailed off d = absurd d

clashes_by : (s : Option Stat) (stat : Stat) (k : Kind) (o : Option Node) → s ≡ Some stat → stat.kind ≡ k → clashes s o ≡ clash k o
clashes_by s stat k o has is = ap (λ s. clashes s o) has ∙ by o ∙ ap (λ k. clash k o) is
  where
    by : (o : Option Node) → clashes (Some stat) o ≡ clash stat.kind o
    by None = refl
    by (Some n) = refl

told_size : (o : Option Node) (stat : Stat) → option_map stat_of o ≡ Some stat → stat.size ≡ length (content o)
told_size None stat e = cc
told_size (Some n) stat e = ap (λ (s : Stat). s.size) (sym (same_some (stat_of n) stat e)) ∙ by n.body
  where
    by : (b : Body) → Rattle.outside.specs.Tree.size_of b ≡ length (Rattle.outside.specs.Tree.bytes_of b)
    by (dir far) = refl
    by (file bytes) = refl
    by (link text) = refl
    by other = refl

-- the fate where nothing that comes early applies
abbrev free_fate : (clash untold : Bool) → Fate
free_fate c u = cond c fate.Conflict (cond u fate.Changed fate.Done)

may : (c u : Bool) → may_fail (free_fate c u) ≡ true
may true u = refl
may false true = refl
may false false = refl

-- an entry with its fate
module _ (before after : Files) (pairs : List Pair) (rows : List (List ℕ × Fate)) (e : Entry) where
  untold_by : (stat : Stat) (k : Kind) → e.stat ≡ Some stat → stat.kind ≡ k → is_untold e ≡ (is_kind kind.Link k && is_none e.target)
  untold_by stat k has is = ap (λ s. is_of kind.Link s && is_none e.target) has ∙ ap (λ k. is_kind kind.Link k && is_none e.target) is

  due_by : (stat : Stat) (k : Kind) (u : Bool) → e.stat ≡ Some stat → stat.kind ≡ k → is_untold e ≡ u → early pairs rows e ≡ None →
      due before pairs rows e ≡ free_fate (clash k (get before (target_of pairs e.path))) u
  due_by stat k u has is free now =
      ap (λ x. or_else x (free_fate (clashes e.stat (get before (target_of pairs e.path))) (is_untold e))) now
      ∙ ap (λ b. free_fate b (is_untold e)) (clashes_by e.stat stat k (get before (target_of pairs e.path)) has is)
      ∙ ap (free_fate (clash k (get before (target_of pairs e.path)))) free

  copied_by : (stat : Stat) (k : Kind) (u : Bool) → e.stat ≡ Some stat → stat.kind ≡ k → is_untold e ≡ u → early pairs rows e ≡ None →
      (g : Fate) →
      Told u k (get before e.path) (get before (target_of pairs e.path)) (get after (target_of pairs e.path)) g →
      IsCopied before after pairs rows e (settled_by false g)
  copied_by stat k u has is free now fate.Done t = record {
    fate_of = inl (sym (due_by stat k u has is free now ∙ ap (λ b. free_fate b u) t.0 ∙ ap (free_fate false) t.1));
    left = subst (λ s. IfSome s (λ stat. IsCopyOf stat.kind (get before e.path) (get before (target_of pairs e.path)) (get after (target_of pairs e.path))))
        (sym has)
        (subst (λ k. IsCopyOf k (get before e.path) (get before (target_of pairs e.path)) (get after (target_of pairs e.path))) (sym is) t.2);
  }
  copied_by stat k u has is free now fate.Conflict t =
      record { fate_of = inl (sym (due_by stat k u has is free now ∙ ap (λ b. free_fate b u) t.0)); left = t.1 }
  copied_by stat k u has is free now fate.Changed t = record {
    fate_of = inl (sym (due_by stat k u has is free now ∙ ap (λ b. free_fate b u) t.0 ∙ ap (free_fate false) t.1));
    left = t.2;
  }
  copied_by stat k u has is free now fate.Failed t = record {
    fate_of = inr (refl, ap may_fail (due_by stat k u has is free now) ∙ may (clash k (get before (target_of pairs e.path))) u);
    left = tt;
  }
  copied_by stat k u has is free now fate.Skipped t = absurd t
  copied_by stat k u has is free now fate.NotEmpty t = absurd t
  copied_by stat k u has is free now fate.TooLong t = absurd t
  copied_by stat k u has is free now fate.ParentFailed t = absurd t

  early_is : (f : Fate) → early pairs rows e ≡ Some f → f ≡ due before pairs rows e
  early_is f now = sym (ap (λ x. or_else x (free_fate (clashes e.stat (get before (target_of pairs e.path))) (is_untold e))) now)

  as_before : (f : Fate) → (f ≡ fate.Skipped) ⊎ ((f ≡ fate.ParentFailed) ⊎ (f ≡ fate.TooLong)) → early pairs rows e ≡ Some f →
      get after (target_of pairs e.path) ≡ get before (target_of pairs e.path) →
      IsCopied before after pairs rows e f
  as_before f (inl is) now same = record { fate_of = inl (early_is f now); left = subst (λ f. IsLeft before after e (target_of pairs e.path) f) (sym is) same }
  as_before f (inr (inl is)) now same =
      record { fate_of = inl (early_is f now); left = subst (λ f. IsLeft before after e (target_of pairs e.path) f) (sym is) same }
  as_before f (inr (inr is)) now same =
      record { fate_of = inl (early_is f now); left = subst (λ f. IsLeft before after e (target_of pairs e.path) f) (sym is) same }

  other_by : (stat : Stat) (k : Kind) → e.stat ≡ Some stat → stat.kind ≡ k → is_other e ≡ is_kind kind.Other k
  other_by stat k has is = ap (is_of kind.Other) has ∙ ap (is_kind kind.Other) is

  is_copied_by : (stat : Stat) (k : Kind) (u : Bool) → e.stat ≡ Some stat → stat.kind ≡ k → (f g : Fate) → is_kind kind.Other k ≡ false →
      (is_kind kind.Link k && is_none e.target) ≡ u → early pairs rows e ≡ cond (is_other e) (Some fate.Skipped) None → f ≡ settled e g →
      Told u k (get before e.path) (get before (target_of pairs e.path)) (get after (target_of pairs e.path)) g → IsCopied before after pairs rows e f
  is_copied_by stat k u has is f g none free now end t =
      let copied : is_other e ≡ false = other_by stat k has is ∙ none in
      subst (λ f. IsCopied before after pairs rows e f) (sym (end ∙ ap (λ b. settled_by b g) copied))
      (copied_by stat k u has is (untold_by stat k has is ∙ free) (now ∙ ap (λ b. cond b (Some fate.Skipped) None) copied) g t)

  passed_by : (stat : Stat) → e.stat ≡ Some stat → stat.kind ≡ kind.Other → (f g : Fate) → g ≢ fate.ParentFailed →
      early pairs rows e ≡ cond (is_other e) (Some fate.Skipped) None → f ≡ settled e g →
      get after (target_of pairs e.path) ≡ get before (target_of pairs e.path) →
      IsCopied before after pairs rows e f
  passed_by stat has is f g off now end same =
      let over : is_other e ≡ true = other_by stat kind.Other has is in
      let skipped : f ≡ fate.Skipped = end ∙ ap (λ b. settled_by b g) over ∙ skipped_by g off in
      as_before f (inl skipped) (now ∙ ap (λ b. cond b (Some fate.Skipped) None) over ∙ ap (λ x. Some x) (sym skipped)) same

  tried_by : (stat : Stat) (k : Kind) → e.stat ≡ Some stat → stat.kind ≡ k → option_map stat_of (get before e.path) ≡ Some stat →
      IfSome e.target (λ text. link_at (get before e.path) ≡ Some text) → (f g : Fate) → g ≢ fate.ParentFailed →
      early pairs rows e ≡ cond (is_other e) (Some fate.Skipped) None → f ≡ settled e g →
      CopyKind k before (target_of pairs e.path) e g (found order.TopDown (target_of pairs e.path) before after)
      (left order.TopDown (target_of pairs e.path) before after) →
      IsCopied before after pairs rows e f
  tried_by stat kind.Dir has is told known f g off now end d =
      is_copied_by stat kind.Dir false has is f g refl refl now end (dir_told before after e (target_of pairs e.path) g off d)
  tried_by stat kind.File has is told known f g off now end d =
      let size : size_by e.stat ≡ length (content (get before e.path)) = ap size_by has ∙ told_size (get before e.path) stat told in
      is_copied_by stat kind.File false has is f g refl refl now end (file_told before after e (target_of pairs e.path) size g off d)
  tried_by stat kind.Link has is told known f g off now end d =
      is_copied_by stat kind.Link (is_none e.target) has is f g refl refl now end (link_told before after e (target_of pairs e.path) e.target known g d)
  tried_by stat kind.Other has is told known f g off now end d =
      passed_by stat has is f g off now end (passed_over before after e (target_of pairs e.path) g off d)

  told_by : (s : Option Stat) → e.stat ≡ s → is_some s ≡ true → IfSome s (λ stat. option_map stat_of (get before e.path) ≡ Some stat) →
      IfSome e.target (λ text. link_at (get before e.path) ≡ Some text) → (f g : Fate) → g ≢ fate.ParentFailed →
      early pairs rows e ≡ cond (is_other e) (Some fate.Skipped) None → f ≡ settled e g →
      CopyTold s before (target_of pairs e.path) e g (found order.TopDown (target_of pairs e.path) before after)
      (left order.TopDown (target_of pairs e.path) before after) →
      IsCopied before after pairs rows e f
  told_by None has some told known f g off now end d = absurd (false≢true some)
  told_by (Some stat) has some told known f g off now end d = tried_by stat stat.kind has refl told known f g off now end d

  is_copied : (list : List Entry) (items : List Item) (outs : List Fate) → items ≡ items_of pairs list →
      Acted (CopyOne before) order.TopDown items outs before after → is_some e.stat ≡ true →
      IfSome e.stat (λ stat. option_map stat_of (get before e.path) ≡ Some stat) →
      IfSome e.target (λ text. link_at (get before e.path) ≡ Some text) → (f : Fate) → Comes pairs rows items outs e f →
      IsCopied before after pairs rows e f
  is_copied list items outs are acted some told known f (long now room is) =
      let off = ap (λ xs. is_item xs (target_of pairs e.path)) are ∙ far_no_item pairs (treated list) (target_of pairs e.path) (no_room_of pairs e room) in
      as_before f (inr (inr is)) (now ∙ ap (λ x. Some x) (sym is)) (acted.others (target_of pairs e.path) off)
  is_copied list items outs are acted some told known f (under k at has now is) =
      as_before f (inr (inl is)) (now ∙ ap (λ x. Some x) (sym is)) ((acted.each k (item_of pairs e) fate.ParentFailed at has).untouched refl)
  is_copied list items outs are acted some told known f (tried k g at has off odd now is) =
      told_by e.stat refl some told known f g off now is ((acted.each k (item_of pairs e) g at has).touched off)

-- all entries

abbrev TellsStat : Files → Entry → Type 0
TellsStat before e = IfSome e.stat (λ stat. option_map stat_of (get before e.path) ≡ Some stat)

abbrev TellsText : Files → Entry → Type 0
TellsText before e = IfSome e.target (λ text. link_at (get before e.path) ≡ Some text)

abbrev IsTold : Files → Entry → Type 0
IsTold before e = (is_some e.stat ≡ true) × TellsStat before e × TellsText before e

told_treated : (before : Files) (list : List Entry) → AllByRecursion (TellsStat before) list → AllByRecursion (TellsText before) list →
    AllByRecursion (IsTold before) (treated list)
told_treated before [] h t = tt
told_treated before (e ∷ list) h t =
    elim (is_some e.stat) as (λ b. is_some e.stat ≡ b → AllByRecursion (IsTold before) (cond b (e ∷ treated list) (treated list))) [
      | true ↦ λ some. ((some, h.0, t.0), told_treated before list h.1 t.1)
      | false ↦ λ none. told_treated before list h.1 t.1
    ] refl

firsts : {X Y : Type 0} (P : X → Type 0) (xs : List X) (ys : List Y) → AllByRecursion P xs → AllByRecursion (λ (one : X × Y). P one.0) (zip xs ys)
firsts P [] ys h = tt
firsts P (x ∷ xs) [] h = tt
firsts P (x ∷ xs) (y ∷ ys) h = (h.0, firsts P xs ys h.1)

pub together : {X : Type 0} (P Q R : X → Type 0) (xs : List X) → ((x : X) → P x → Q x → R x) → AllByRecursion P xs → AllByRecursion Q xs →
    AllByRecursion R xs
together P Q R [] h p q = tt
together P Q R (x ∷ xs) h p q = (h x p.0 q.0, together P Q R xs h p.1 q.1)

pub others : (list : List Entry) (pairs : List Pair) (items : List Item) (before after : Files) → items ≡ items_of pairs list →
    SameButItems items before after → SameButTargets pairs list before after
others list pairs items before after are same q off = same q (ap (λ xs. is_item xs q) are ∙ no_item pairs (treated list) q off)

pub copied : (list : List Entry) (pairs : List Pair) (rows : List (List ℕ × Fate)) (items : List Item) (outs : List Fate) (before after : Files) →
    items ≡ items_of pairs list → FitsTree list pairs before →
    Acted (CopyOne before) order.TopDown items outs before after → AllByRecursion (λ (one : Row). Comes pairs rows items outs one.0 one.1.1)
    (zip (treated list) rows) → Copied list pairs rows before after
copied list pairs rows items outs before after are fits acted come = record {
  others = others list pairs items before after are acted.others;
  each =
      All-from_recursion (λ (one : Row). IsCopied before after pairs rows one.0 one.1.1) (zip (treated list) rows)
      (together (λ (one : Row). IsTold before one.0) (λ (one : Row). Comes pairs rows items outs one.0 one.1.1)
      (λ (one : Row). IsCopied before after pairs rows one.0 one.1.1) (zip (treated list) rows)
      (λ one told come. is_copied before after pairs rows one.0 list items outs are acted told.0 told.1 told.2 one.1.1 come)
      (firsts (IsTold before) (treated list) rows
      (told_treated before list (recursion_from_All (TellsStat before) list fits.told) (recursion_from_All (TellsText before) list fits.targets))) come);
}
