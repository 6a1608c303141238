-- Where the lines of a text stop to be those of the file of a rank: what holds of all files of whole lines, for paths.
use Rattle.circle_lists.proofs.Prelude.{◌≡◌, ℕ, suc, ◌+◌, ◌-◌, ◌<◌, ◌^◌, List, [], ◌∷◌, ◌++◌, length, take, refl, ap, sym, ◌∙◌, subst, arith, length-append}
use Rattle.circle_lists.proofs.Prelude.{Option, flat_map, length-map, escape, ReadingUndoesWriting, line, lines_of, end_text, all_more, line_same, joined_lines}
use Rattle.circle_lists.proofs.Prelude.{Form, cons_parts, IsRank, head_text, IsWritable, IsList, path_lines, lines_for, Spells, Agrees, Begins, IsDamaged}
use Rattle.whole_lines.proofs.WholeLines as whole
use Rattle.circle_lists.proofs.Paths.{same_path, end_apart}

pub list_more : (ps : List (List ℕ)) (p : List ℕ) → IsList ps → IsWritable p → length ps + 1 < 2 ^ 64 → IsList (ps ++ p ∷ [])
list_more ps p is one few = record {
  count = subst (λ n. n < 2 ^ 64) (sym (length-append ps (p ∷ []))) few;
  each = all_more IsWritable ps p is.each one;
}

pub no_list : IsList []
no_list = record { count = omega arith; each = tt }

-- ---- the files of ranks, behind their heads, as files of whole lines: one line a path

pub one_path : ReadingUndoesWriting → (p q : List ℕ) (rest more : List (List ℕ)) → IsWritable p → IsWritable q →
    line (escape p) ∷ rest ≡ line (escape q) ∷ more → p ≡ q
one_path undoes p q rest more is one same = same_path undoes p q is one (line_same (escape p) (escape q) (cons_parts _ _ _ _ same).0)

pub no_end : (p : List ℕ) (ps : List (List ℕ)) → IsWritable p → line (escape p) ≡ line (end_text (length ps)) → ⊥
no_end p ps is same = end_apart p (length ps) is (line_same (escape p) (end_text (length ps)) same)

abbrev pub form : ReadingUndoesWriting → Form (List ℕ)
form undoes = record {
  first = λ p. line (escape p);
  others = λ p. [];
  final = λ ps. line (end_text (length ps));
  IsItem = IsWritable;
  IsFile = IsList;
  Follows = λ ps p. Unit {0};
  each = λ ps is. is.each;
  follows = λ ps p rest is. tt;
  one = one_path undoes;
  apart = no_end;
}

pub is_final : (undoes : ReadingUndoesWriting) (ps : List (List ℕ)) → whole.IsFinal (form undoes) (line (end_text (length ps)))
is_final undoes ps p is same = no_end p ps is same

-- whose file a text is read as
pub record Reader : Type 0 where
  pub bytes : List ℕ
  pub rank : ℕ
  pub known : Option ℕ

-- what was read so far: the head and the lines of some paths stand first
pub record Stands (r : Reader) (ranks : ℕ) (ps : List (List ℕ)) (more : List (List ℕ)) : Type 0 where
  pub is_rank : IsRank r.rank ranks
  pub agrees : Agrees r.known ranks
  pub list : IsList ps
  pub text : lines_of r.bytes ≡ line (head_text r.rank ranks) ∷ (path_lines ps ++ more)

pub spelled : (r : Reader) (ranks : ℕ) (ps : List (List ℕ)) → Stands r ranks ps (line (end_text (length ps)) ∷ []) → Spells r.bytes r.rank ranks ps
spelled r ranks ps s = record { is_rank = s.is_rank; list = s.list; text = sym (joined_lines r.bytes) ∙ ap (flat_map (λ l. l)) s.text }

module _ (undoes : ReadingUndoesWriting) where
  pub same_lines : (ps : List (List ℕ)) → whole.lines_for (form undoes) ps ≡ path_lines ps
  same_lines [] = refl
  same_lines (p ∷ ps) = ap (λ ls. line (escape p) ∷ ls) (same_lines ps)

  lines_of_list : (rank ranks : ℕ) (ps : List (List ℕ)) →
      lines_for rank ranks ps ≡ line (head_text rank ranks) ∷ (whole.lines_for (form undoes) ps ++ line (end_text (length ps)) ∷ [])
  lines_of_list rank ranks ps = ap (λ ls. line (head_text rank ranks) ∷ (ls ++ line (end_text (length ps)) ∷ [])) (sym (same_lines ps))

  behind_head : (n : ℕ) (r : Reader) (head : List ℕ) (ls : List (List ℕ)) → lines_of r.bytes ≡ head ∷ ls → Begins (suc n) r.bytes r.rank r.known →
      whole.Begins (form undoes) n ls
  behind_head n r head ls is b = record {
    items = b.paths;
    file = b.list;
    same = (cons_parts _ _ _ _ (ap (take (suc n)) (sym is) ∙ b.same ∙ ap (take (suc n)) (lines_of_list r.rank b.ranks b.paths))).1;
  }

  with_head : (n : ℕ) (r : Reader) (ranks : ℕ) (ls : List (List ℕ)) → IsRank r.rank ranks → Agrees r.known ranks →
      lines_of r.bytes ≡ line (head_text r.rank ranks) ∷ ls → whole.Begins (form undoes) n ls → Begins (suc n) r.bytes r.rank r.known
  with_head n r ranks ls rank agrees is b = record {
    ranks = ranks;
    paths = b.items;
    is_rank = rank;
    agrees = agrees;
    list = b.file;
    same = ap (take (suc n)) is ∙ ap (λ l. line (head_text r.rank ranks) ∷ l) b.same ∙ ap (take (suc n)) (sym (lines_of_list r.rank ranks b.items));
  }

  -- the lines behind the head, as the form has them
  behind : (r : Reader) (ranks : ℕ) (ps : List (List ℕ)) (more : List (List ℕ)) → Stands r ranks ps more →
      lines_of r.bytes ≡ line (head_text r.rank ranks) ∷ (whole.lines_for (form undoes) ps ++ more)
  behind r ranks ps more s = s.text ∙ ap (λ ls. line (head_text r.rank ranks) ∷ (ls ++ more)) (sym (same_lines ps))

  count_is : (ps : List (List ℕ)) → length (whole.lines_for (form undoes) ps) ≡ length ps
  count_is ps = ap length (same_lines ps) ∙ length-map ps (λ p. line (escape p))

  -- ---- the first line with which no file of the rank goes on

  pub damaged_here : (r : Reader) (ranks : ℕ) (ps : List (List ℕ)) (more : List (List ℕ)) → Stands r ranks ps more →
      whole.IsBad (form undoes) ps [] more → IsDamaged r.bytes r.rank r.known (length ps + 2)
  damaged_here r ranks ps more s bad =
      let is = behind r ranks ps more s in
      let count = count_is ps in
      let here : length ps + 2 ≡ suc (suc (length (whole.lines_for (form undoes) ps) + 0)) = omega arith in
      let before : length ps + 2 - 1 ≡ suc (length (whole.lines_for (form undoes) ps)) = omega arith in
      record {
        first = omega arith;
        before = subst (λ n. Begins n r.bytes r.rank r.known) (sym before)
            (with_head _ r ranks _ s.is_rank s.agrees is (whole.begun (form undoes) ps more s.list));
        through = λ b. whole.bad_line (form undoes) ps [] more s.list bad (behind_head _ r _ _ is (subst (λ n. Begins n r.bytes r.rank r.known) here b));
      }

  pub damaged_after : (r : Reader) (ranks : ℕ) (ps : List (List ℕ)) (m : List ℕ) (ms : List (List ℕ)) →
      Stands r ranks ps (line (end_text (length ps)) ∷ m ∷ ms) → IsDamaged r.bytes r.rank r.known (length ps + 3)
  damaged_after r ranks ps m ms s =
      let is = behind r ranks ps _ s in
      let count = count_is ps in
      let here : length ps + 3 ≡ suc (suc (suc (length (whole.lines_for (form undoes) ps)))) = omega arith in
      let before : length ps + 3 - 1 ≡ suc (suc (length (whole.lines_for (form undoes) ps))) = omega arith in
      record {
        first = omega arith;
        before = subst (λ n. Begins n r.bytes r.rank r.known) (sym before)
            (with_head _ r ranks _ s.is_rank s.agrees is (whole.ended (form undoes) ps (m ∷ ms) s.list));
        through = λ b. whole.line_behind (form undoes) ps m ms s.list (behind_head _ r _ _ is (subst (λ n. Begins n r.bytes r.rank r.known) here b));
      }
