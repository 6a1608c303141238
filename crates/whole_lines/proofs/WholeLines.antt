-- Files of whole lines: the lines of some items, one item behind the other, and an end line. A form says how many lines an item
-- has, what they are, which item may follow which, and the end line. The lines of such a file tell its items, and a text is
-- damaged from the first line on with which no file goes on. Our own.
use Rattle.whole_lines.proofs.Prelude.{◌≡◌, ℕ, zero, suc, ◌+◌, ◌<◌, List, [], ◌∷◌, ◌++◌, length, take, drop, refl, ap, sym, ◌∙◌, subst, arith, append_assoc}
use Rattle.whole_lines.proofs.Prelude.{length-append, AllByRecursion, flat_map, take_at, take-append-drop, append_cancel_left, take-append-add}

pub record Form (Item : Type 0) : Type 1 where
  -- the lines of an item, and the line behind all items
  pub first : Item → List ℕ
  pub others : Item → List (List ℕ)
  pub final : List Item → List ℕ
  -- an item that has lines, items that have a file, and an item that may come behind others
  pub IsItem : Item → Type 0
  pub IsFile : List Item → Type 0
  pub Follows : List Item → Item → Type 0
  pub each : (items : List Item) → IsFile items → AllByRecursion IsItem items
  pub follows : (items : List Item) (item : Item) (rest : List Item) → IsFile (items ++ item ∷ rest) → Follows items item
  -- two items with lines at the front of one text are the same, and an end line is no item's first
  pub one : (item other : Item) (rest more : List (List ℕ)) → IsItem item → IsItem other →
      first item ∷ (others item ++ rest) ≡ first other ∷ (others other ++ more) → item ≡ other
  pub apart : (item : Item) (items : List Item) → IsItem item → first item ≡ final items → ⊥

pub cons_parts : {A : Type 0} (x y : A) (xs ys : List A) → x ∷ xs ≡ y ∷ ys → (x ≡ y) × (xs ≡ ys)
cons_parts x y xs ys e = (cc, cc)

module _ {Item : Type 0} (form : Form Item) where
  abbrev pub item_lines : Item → List (List ℕ)
  item_lines item = form.first item ∷ form.others item

  abbrev pub lines_for : List Item → List (List ℕ)
  lines_for items = flat_map item_lines items

  -- no item begins as this line does
  abbrev pub IsFinal : List ℕ → Type 0
  IsFinal line = (item : Item) → form.IsItem item → form.first item ≡ line → ⊥

  final_is : (items : List Item) → IsFinal (form.final items)
  final_is items item is same = form.apart item items is same

  -- the first n lines are the first n of some file; where there are fewer, they are all that this file has
  pub record Begins (n : ℕ) (lines : List (List ℕ)) : Type 0 where
    pub items : List Item
    pub file : form.IsFile items
    pub same : take n lines ≡ take n (lines_for items ++ form.final items ∷ [])

  item_at : (items : List Item) (item : Item) (rest : List Item) → AllByRecursion form.IsItem (items ++ item ∷ rest) → form.IsItem item
  item_at [] item rest each = each.0
  item_at (d ∷ items) item rest each = item_at items item rest each.1

  -- ---- what stands behind the lines of some items, where others' lines and a last one begin alike

  pub data Next (items others : List Item) (k : ℕ) (more : List (List ℕ)) (last : List ℕ) : Type 0 where
    goes_on : (item : Item) (rest : List Item) (behind : List (List ℕ)) → others ≡ items ++ item ∷ rest → take k more ≡ take k (item_lines item ++ behind) →
        Next items others k more last
    ends : others ≡ items → take k more ≡ take k (last ∷ []) → Next items others k more last

  next_under : (d f : Item) (items others : List Item) (k : ℕ) (more : List (List ℕ)) (last : List ℕ) → d ≡ f → Next items others k more last →
      Next (d ∷ items) (f ∷ others) k more last
  next_under d f items others k more last same (goes_on item rest behind is one) =
      goes_on item rest behind (ap (λ l. f ∷ l) is ∙ ap (λ e. e ∷ (items ++ item ∷ rest)) (sym same)) one
  next_under d f items others k more last same (ends is one) = ends (ap (λ l. f ∷ l) is ∙ ap (λ e. e ∷ items) (sym same)) one

  -- two items, and what is the same behind them
  pub record Alike (item other : Item) (n : ℕ) (more behind : List (List ℕ)) : Type 0 where
    pub item_is : item ≡ other
    pub then : take n more ≡ take n behind

  alike : (item other : Item) (n : ℕ) (more behind : List (List ℕ)) → form.IsItem item → form.IsItem other →
      take (length (item_lines item) + n) (item_lines item ++ more) ≡ take (length (item_lines item) + n) (item_lines other ++ behind) →
      Alike item other n more behind
  alike item other n more behind is other_is same =
      let long = length (item_lines item) + n in
      let front : item_lines item ++ take n more ≡ take long (item_lines other ++ behind) = sym (take-append-add (item_lines item) more n) ∙ same in
      let whole : item_lines item ++ (take n more ++ drop long (item_lines other ++ behind)) ≡ item_lines other ++ behind =
      sym (append_assoc (item_lines item) (take n more) (drop long (item_lines other ++ behind)))
      ∙ ap (λ l. l ++ drop long (item_lines other ++ behind)) front
      ∙ take-append-drop long (item_lines other ++ behind) in
      let item_is : item ≡ other = form.one item other _ _ is other_is whole in
      let back : item_lines item ++ take n more ≡ item_lines item ++ take n behind =
      front ∙ ap (λ i. take long (item_lines i ++ behind)) (sym item_is) ∙ take-append-add (item_lines item) behind n in
      record { item_is = item_is; then = append_cancel_left (item_lines item) (take n more) (take n behind) back }

  pub next : (k n : ℕ) (last : List ℕ) (items others : List Item) (more : List (List ℕ)) → IsFinal last → AllByRecursion form.IsItem items →
      AllByRecursion form.IsItem others →
      n ≡ length (lines_for items) + suc k → take n (lines_for items ++ more) ≡ take n (lines_for others ++ last ∷ []) → Next items others (suc k) more last
  next k n last [] [] more off each all is e =
      let same : n ≡ suc k = omega arith in
      ends refl (subst (λ m. take m more ≡ take m (last ∷ [])) same e)
  next k n last [] (f ∷ others) more off each all is e =
      let same : n ≡ suc k = omega arith in
      let there = append_assoc (item_lines f) (lines_for others) (last ∷ []) in
      goes_on f others (lines_for others ++ last ∷ []) refl
      (subst (λ m. take m more ≡ take m (item_lines f ++ (lines_for others ++ last ∷ []))) same (e ∙ ap (take n) there))
  next k zero last (d ∷ items) [] more off each all is e = absurd (omega arith)
  next k (suc n) last (d ∷ items) [] more off each all is e = absurd (off d each.0 (cons_parts _ _ _ _ e).0)
  next k n last (d ∷ items) (f ∷ others) more off each all is e =
      let left = length (lines_for items) + suc k in
      let long : n ≡ length (item_lines d) + left = is ∙ omega (arith, length-append (item_lines d) (lines_for items)) in
      let parts : take n (item_lines d ++ (lines_for items ++ more)) ≡ take n (item_lines f ++ (lines_for others ++ last ∷ [])) =
      ap (take n) (sym (append_assoc (item_lines d) (lines_for items) more)) ∙ e ∙ ap (take n) (append_assoc (item_lines f) (lines_for others) (last ∷ [])) in
      let same = alike d f left (lines_for items ++ more) (lines_for others ++ last ∷ []) each.0 all.0
      (subst (λ m. take m (item_lines d ++ (lines_for items ++ more)) ≡ take m (item_lines f ++ (lines_for others ++ last ∷ []))) long parts) in
      next_under d f items others (suc k) more last same.item_is (next k left last items others more off each.1 all.1 refl same.then)

  -- the same of whole texts, where the others are more
  pub record Longer (items others : List Item) (more behind : List (List ℕ)) : Type 0 where
    pub item : Item
    pub rest : List Item
    pub parts : others ≡ items ++ item ∷ rest
    pub text : more ≡ item_lines item ++ (lines_for rest ++ behind)

  pub longer : (items others : List Item) (more behind : List (List ℕ)) → AllByRecursion form.IsItem items → AllByRecursion form.IsItem others →
      length items < length others →
      lines_for items ++ more ≡ lines_for others ++ behind → Longer items others more behind
  longer [] [] more behind each all lt e = absurd (omega arith)
  longer [] (f ∷ others) more behind each all lt e =
      record { item = f; rest = others; parts = refl; text = e ∙ append_assoc (item_lines f) (lines_for others) behind }
  longer (d ∷ items) [] more behind each all lt e = absurd (omega arith)
  longer (d ∷ items) (f ∷ others) more behind each all lt e =
      let parts : item_lines d ++ (lines_for items ++ more) ≡ item_lines f ++ (lines_for others ++ behind) =
      sym (append_assoc (item_lines d) (lines_for items) more) ∙ e ∙ append_assoc (item_lines f) (lines_for others) behind in
      let same : d ≡ f = form.one d f _ _ each.0 all.0 parts in
      let tails : lines_for items ++ more ≡ lines_for others ++ behind =
      append_cancel_left (item_lines d) _ _ (parts ∙ ap (λ i. item_lines i ++ (lines_for others ++ behind)) (sym same)) in
      let l = longer items others more behind each.1 all.1 (omega arith) tails in
      record { item = l.item; rest = l.rest; parts = ap (λ l. f ∷ l) l.parts ∙ ap (λ e. e ∷ (items ++ l.item ∷ l.rest)) (sym same); text = l.text }

  -- lines up to an end line tell the items
  pub same_items : (items others : List Item) (last end : List ℕ) (more behind : List (List ℕ)) → IsFinal last → IsFinal end →
      AllByRecursion form.IsItem items → AllByRecursion form.IsItem others → lines_for items ++ last ∷ more ≡ lines_for others ++ end ∷ behind → others ≡ items
  same_items [] [] last end more behind off on each all e = refl
  same_items [] (f ∷ others) last end more behind off on each all e = absurd (off f all.0 (sym (cons_parts _ _ _ _ e).0))
  same_items (d ∷ items) [] last end more behind off on each all e = absurd (on d each.0 (cons_parts _ _ _ _ e).0)
  same_items (d ∷ items) (f ∷ others) last end more behind off on each all e =
      let parts : item_lines d ++ (lines_for items ++ last ∷ more) ≡ item_lines f ++ (lines_for others ++ end ∷ behind) =
      sym (append_assoc (item_lines d) (lines_for items) (last ∷ more)) ∙ e ∙ append_assoc (item_lines f) (lines_for others) (end ∷ behind) in
      let same : d ≡ f = form.one d f _ _ each.0 all.0 parts in
      let tails : lines_for items ++ last ∷ more ≡ lines_for others ++ end ∷ behind =
      append_cancel_left (item_lines d) _ _ (parts ∙ ap (λ i. item_lines i ++ (lines_for others ++ end ∷ behind)) (sym same)) in
      ap (λ l. f ∷ l) (same_items items others last end more behind off on each.1 all.1 tails) ∙ ap (λ e. e ∷ items) (sym same)

  -- ---- lines that begin a file, and the first that does not

  pub begun : (items : List Item) (more : List (List ℕ)) → form.IsFile items → Begins (length (lines_for items)) (lines_for items ++ more)
  begun items more file = record {
    items = items;
    file = file;
    same = take_at (lines_for items) more _ refl ∙ sym (take_at (lines_for items) (form.final items ∷ []) _ refl);
  }

  -- with part of an item read behind whole ones, no item that may follow goes on as the text does, nor does the end
  pub record IsBad (items : List Item) (part more : List (List ℕ)) : Type 0 where
    pub item : (item : Item) (behind : List (List ℕ)) → form.IsItem item → form.Follows items item →
        take (suc (length part)) (part ++ more) ≡ take (suc (length part)) (item_lines item ++ behind) → ⊥
    pub end : take (suc (length part)) (part ++ more) ≡ take (suc (length part)) (form.final items ∷ []) → ⊥

  none_next : (items : List Item) (part more : List (List ℕ)) → IsBad items part more → (others : List Item) → form.IsFile others →
      Next items others (suc (length part)) (part ++ more) (form.final others) → ⊥
  none_next items part more bad others file (goes_on item rest behind is one) =
      let whole : form.IsFile (items ++ item ∷ rest) = subst form.IsFile is file in
      bad.item item behind (item_at items item rest (form.each (items ++ item ∷ rest) whole)) (form.follows items item rest whole) one
  none_next items part more bad others file (ends is one) = bad.end (one ∙ ap (λ l. take (suc (length part)) (form.final l ∷ [])) is)

  pub bad_line : (items : List Item) (part more : List (List ℕ)) → form.IsFile items → IsBad items part more →
      Begins (suc (length (lines_for items) + length part)) (lines_for items ++ (part ++ more)) → ⊥
  bad_line items part more file bad b =
      let long : suc (length (lines_for items) + length part) ≡ length (lines_for items) + suc (length part) = omega arith in
      none_next items part more bad b.items b.file
      (next (length part) _ (form.final b.items) items b.items (part ++ more) (final_is b.items) (form.each items file) (form.each b.items b.file) long b.same)

  pub bad_is_short : (items others : List Item) (part more behind : List (List ℕ)) → form.IsFile items → form.IsFile others → IsBad items part more →
      length items < length others → lines_for items ++ (part ++ more) ≡ lines_for others ++ behind → ⊥
  bad_is_short items others part more behind file others_file bad lt e =
      let l = longer items others (part ++ more) behind (form.each items file) (form.each others others_file) lt e in
      none_next items part more bad others others_file (goes_on l.item l.rest _ l.parts (ap (take (suc (length part))) l.text))

  -- ---- the end

  pub ended : (items : List Item) (more : List (List ℕ)) → form.IsFile items →
      Begins (suc (length (lines_for items))) (lines_for items ++ form.final items ∷ more)
  ended items more file = record {
    items = items;
    file = file;
    same = with_end more ∙ sym (with_end []);
  }
    where
      with_end : (more : List (List ℕ)) →
          take (suc (length (lines_for items))) (lines_for items ++ form.final items ∷ more) ≡ lines_for items ++ form.final items ∷ []
      with_end more =
          let long : length (lines_for items ++ form.final items ∷ []) ≡ suc (length (lines_for items)) =
          omega (arith, length-append (lines_for items) (form.final items ∷ [])) in
          ap (take (suc (length (lines_for items)))) (sym (append_assoc (lines_for items) (form.final items ∷ []) more))
          ∙ take_at (lines_for items ++ form.final items ∷ []) more _ long

  -- nothing stands behind it
  pub line_behind : (items : List Item) (line : List ℕ) (more : List (List ℕ)) → form.IsFile items →
      Begins (suc (suc (length (lines_for items)))) (lines_for items ++ form.final items ∷ line ∷ more) → ⊥
  line_behind items line more file b =
      let long : suc (suc (length (lines_for items))) ≡ length (lines_for items) + suc 1 = omega arith in
      none (next 1 _ (form.final b.items) items b.items (form.final items ∷ line ∷ more) (final_is b.items) (form.each items file)
      (form.each b.items b.file) long b.same)
    where
      none : Next items b.items (suc 1) (form.final items ∷ line ∷ more) (form.final b.items) → ⊥
      none (goes_on item rest behind is one) =
          let whole : form.IsFile (items ++ item ∷ rest) = subst form.IsFile is b.file in
          form.apart item items (item_at items item rest (form.each (items ++ item ∷ rest) whole)) (sym (cons_parts _ _ _ _ one).0)
      none (ends is one) = let tails = (cons_parts _ _ _ _ one).1 in cc

  pub end_is_short : (items others : List Item) (more behind : List (List ℕ)) → form.IsFile items → form.IsFile others →
      length items < length others → lines_for items ++ form.final items ∷ more ≡ lines_for others ++ behind → ⊥
  end_is_short items others more behind file others_file lt e =
      let l = longer items others (form.final items ∷ more) behind (form.each items file) (form.each others others_file) lt e in
      let whole : form.IsFile (items ++ l.item ∷ l.rest) = subst form.IsFile l.parts others_file in
      form.apart l.item items (item_at items l.item l.rest (form.each (items ++ l.item ∷ l.rest) whole)) (sym (cons_parts _ _ _ _ l.text).0)
