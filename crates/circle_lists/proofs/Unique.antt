-- A rank's list has one text, a text is one list's, and it is damaged at one line at most.
use Rattle.circle_lists.proofs.Prelude.{◌≡◌, ℕ, zero, suc, ◌+◌, ◌-◌, ◌<◌, inl, inr, List, [], ◌∷◌, ◌++◌, length, get_or, take, refl, ap, sym, ◌∙◌, subst, arith}
use Rattle.circle_lists.proofs.Prelude.{append_assoc, append-nil, Option, AllByRecursion, flat_map, cases_lt, append_cancel_left, ext_get_or, take-take, escape}
use Rattle.circle_lists.proofs.Prelude.{ReadingUndoesWriting, Files, line, lines_of, end_text, end_free, line_first, line_same, flat_end, no_lines, cons_parts}
use Rattle.circle_lists.proofs.Prelude.{head_text, IsWritable, path_lines, lines_for, Spells, Begins, IsDamaged, SpellsOne, DamagedOnce, HoldsList, ReadsBack}
use Rattle.circle_lists.proofs.Prelude.{escape_free}
use Rattle.whole_lines.proofs.WholeLines as whole
use Rattle.circle_lists.proofs.Paths.{head_free, same_head}
use Rattle.circle_lists.proofs.Damage.{form, is_final, same_lines}

-- ---- the lines of a text

paths_first : (ps : List (List ℕ)) (rest : List ℕ) → AllByRecursion IsWritable ps →
    lines_of (flat_map (λ l. l) (path_lines ps) ++ rest) ≡ path_lines ps ++ lines_of rest
paths_first [] rest each = refl
paths_first (p ∷ ps) rest each =
    let text = escape p in
    let tail = flat_map (λ l. l) (path_lines ps) ++ rest in
    let parts : flat_map (λ l. l) (path_lines (p ∷ ps)) ++ rest ≡ text ++ 10 ∷ tail =
    append_assoc (line text) (flat_map (λ l. l) (path_lines ps)) rest ∙ append_assoc text (10 ∷ []) tail in
    ap lines_of parts ∙ line_first text tail (escape_free p) ∙ ap (λ ls. line text ∷ ls) (paths_first ps rest each.1)

file_lines : (a more : List ℕ) (rank ranks : ℕ) (ps : List (List ℕ)) → Spells a rank ranks ps →
    lines_of (a ++ more) ≡ line (head_text rank ranks) ∷ (path_lines ps ++ line (end_text (length ps)) ∷ lines_of more)
file_lines a more rank ranks ps is =
    let head = head_text rank ranks in
    let end = end_text (length ps) in
    let body = flat_map (λ l. l) (path_lines ps) in
    let flat : flat_map (λ l. l) (lines_for rank ranks ps) ≡ line head ++ (body ++ line end) =
    ap (λ t. line head ++ t) (flat_end (path_lines ps) (line end)) in
    let tail : (body ++ line end) ++ more ≡ body ++ (end ++ 10 ∷ more) =
    append_assoc body (line end) more ∙ ap (λ t. body ++ t) (append_assoc end (10 ∷ []) more) in
    let parts : (line head ++ (body ++ line end)) ++ more ≡ head ++ 10 ∷ (body ++ (end ++ 10 ∷ more)) =
    append_assoc (line head) (body ++ line end) more ∙ ap (λ t. line head ++ t) tail ∙ append_assoc head (10 ∷ []) (body ++ (end ++ 10 ∷ more)) in
    ap (λ t. lines_of (t ++ more)) (is.text ∙ flat)
    ∙ ap lines_of parts
    ∙ line_first head (body ++ (end ++ 10 ∷ more)) (head_free rank ranks is.is_rank)
    ∙ ap (λ ls. line head ∷ ls) (paths_first ps (end ++ 10 ∷ more) is.list.each
    ∙ ap (λ ls. path_lines ps ++ ls) (line_first end more (end_free (length ps) is.list.count)))

own_lines : (a : List ℕ) (rank ranks : ℕ) (ps : List (List ℕ)) → Spells a rank ranks ps → lines_of a ≡ lines_for rank ranks ps
own_lines a rank ranks ps s = ap lines_of (sym (append-nil a)) ∙ file_lines a [] rank ranks ps s

-- ---- lines that begin a file

shorter : (n : ℕ) (xs ys : List (List ℕ)) → take (suc n) xs ≡ take (suc n) ys → take n xs ≡ take n ys
shorter n xs ys e = sym (take-take n (suc n) xs (omega arith)) ∙ ap (take n) e ∙ take-take n (suc n) ys (omega arith)

begins_less : (n : ℕ) (a : List ℕ) (rank : ℕ) (known : Option ℕ) → Begins (suc n) a rank known → Begins n a rank known
begins_less n a rank known b = record {
  ranks = b.ranks;
  paths = b.paths;
  is_rank = b.is_rank;
  agrees = b.agrees;
  list = b.list;
  same = shorter n (lines_of a) (lines_for rank b.ranks b.paths) b.same;
}

begins_down : (k m n : ℕ) (a : List ℕ) (rank : ℕ) (known : Option ℕ) → n ≡ m + k → Begins n a rank known → Begins m a rank known
begins_down zero m n a rank known is b = let same : n ≡ m = omega arith in subst (λ n. Begins n a rank known) same b
begins_down (suc k) m n a rank known is b =
    let more : n ≡ suc (m + k) = omega arith in
    begins_down k m (m + k) a rank known refl (begins_less (m + k) a rank known (subst (λ n. Begins n a rank known) more b))

not_below : (a : List ℕ) (rank : ℕ) (known : Option ℕ) (m n : ℕ) → IsDamaged a rank known m → IsDamaged a rank known n → m < n → ⊥
not_below a rank known m n d e lt =
    let is : n - 1 ≡ m + (n - 1 - m) = omega arith in
    d.through (begins_down (n - 1 - m) m (n - 1) a rank known is e.before)

pub damaged_once : DamagedOnce
damaged_once = record {
  one_line = λ a rank known m n d e. elim (cases_lt m n) [
    | inl lt ↦ absurd (not_below a rank known m n d e lt)
    | inr le ↦ elim (cases_lt n m) [
      | inl lt ↦ absurd (not_below a rank known n m e d lt)
      | inr ge ↦ omega arith
    ]
  ];
  no_damage = λ a rank ranks known ps n s agrees d. d.through (record {
    ranks = ranks;
    paths = ps;
    is_rank = s.is_rank;
    agrees = agrees;
    list = s.list;
    same = ap (take n) (own_lines a rank ranks ps s);
  });
}

-- ---- one text, one list

-- what two texts have of which one goes on as the other
record Same (rank ranks other others : ℕ) (ps qs : List (List ℕ)) (more : List ℕ) : Type 0 where
  ranks_are : (rank ≡ other) × (ranks ≡ others)
  paths_are : qs ≡ ps
  none : more ≡ []

module _ (undoes : ReadingUndoesWriting) where
  tails : (ps qs : List (List ℕ)) (rest more : List (List ℕ)) → path_lines ps ++ rest ≡ path_lines qs ++ more →
      whole.lines_for (form undoes) ps ++ rest ≡ whole.lines_for (form undoes) qs ++ more
  tails ps qs rest more e = ap (λ ls. ls ++ rest) (same_lines undoes ps) ∙ e ∙ ap (λ ls. ls ++ more) (sym (same_lines undoes qs))

  same : (a more : List ℕ) (rank ranks other others : ℕ) (ps qs : List (List ℕ)) → Spells a rank ranks ps → Spells (a ++ more) other others qs →
      Same rank ranks other others ps qs more
  same a more rank ranks other others ps qs s t =
      let end = line (end_text (length ps)) in
      let both : line (head_text rank ranks) ∷ (path_lines ps ++ end ∷ lines_of more) ≡ lines_for other others qs =
      sym (file_lines a more rank ranks ps s) ∙ own_lines (a ++ more) other others qs t in
      let parts = cons_parts _ _ _ _ both in
      let list : qs ≡ ps = whole.same_items (form undoes) ps qs end (line (end_text (length qs))) (lines_of more) [] (is_final undoes ps)
      (is_final undoes qs) s.list.each t.list.each (tails ps qs _ _ parts.1) in
      let ends : end ∷ lines_of more ≡ end ∷ [] =
      append_cancel_left (path_lines ps) _ _ (parts.1 ∙ ap (λ (ps : List (List ℕ)). path_lines ps ++ line (end_text (length ps)) ∷ []) list) in
      record {
        ranks_are = same_head rank ranks other others s.is_rank t.is_rank (line_same (head_text rank ranks) (head_text other others) parts.0);
        paths_are = list;
        none = no_lines more (cons_parts _ _ _ _ ends).1;
      }

  pub one_list : (a : List ℕ) (rank ranks other others : ℕ) (ps qs : List (List ℕ)) → Spells a rank ranks ps → Spells a other others qs →
      (rank ≡ other) × (ranks ≡ others) × (ps ≡ qs)
  one_list a rank ranks other others ps qs s t =
      let is = same a [] rank ranks other others ps qs s (subst (λ l. Spells l other others qs) (sym (append-nil a)) t) in
      (is.ranks_are.0, is.ranks_are.1, sym is.paths_are)

  pub spells_one : SpellsOne
  spells_one = record {
    one_text = λ a b rank ranks ps s t. s.text ∙ sym t.text;
    one_list = one_list;
    no_prefix = λ a rest rank ranks other others ps qs s t. (same a rest rank ranks other others ps qs s t).none;
  }

  -- ---- the files in a folder

  held : (dir : List ℕ) (rank ranks others : ℕ) (ps qs : List (List ℕ)) (files : Files) → HoldsList dir rank ranks ps files →
      HoldsList dir rank others qs files → (ranks ≡ others) × (ps ≡ qs)
  held dir rank ranks others ps qs files h g =
      let bytes : g.bytes ≡ h.bytes = g.file.same ∙ sym h.file.same in
      let is = one_list h.bytes rank ranks rank others ps qs h.spells (subst (λ b. Spells b rank others qs) bytes g.spells) in
      (is.1, is.2)

  pub reads_back : ReadsBack
  reads_back dir lists others files some any h g =
      let count : length lists ≡ length others =
      (held dir 0 (length lists) (length others) (get_or lists 0 []) (get_or others 0 []) files (h 0 some) (g 0 any)).0 in
      ext_get_or [] lists others count (λ i lt. (held dir i (length lists) (length others) (get_or lists i []) (get_or others i []) files
      (h i lt) (g i (omega (arith, lt, count)))).1)
