-- Where the lines of a text stop to be those of a list file: what holds of all files of whole lines, for entries and their targets.
use Rattle.flat_list.proofs.Prelude.{◌≡◌, ℕ, suc, ◌+◌, ◌-◌, ◌<◌, ◌≤◌, ◌^◌, inl, inr, List, [], ◌∷◌, ◌++◌, length, take, get_or, Option, Some, None, refl, ap}
use Rattle.flat_list.proofs.Prelude.{sym, ◌∙◌, subst, arith, length-append, ◌*◌, AllByRecursion, flat_map, eqb, cases_lt, false≢true, flat_map-append}
use Rattle.flat_list.proofs.Prelude.{take-take, ReadingUndoesWriting, LinkReadingUndoesWriting, Entry, Version, One, Two, text_of, header_text, target_text}
use Rattle.flat_list.proofs.Prelude.{target_lines, lines_by, entry_lines, lines_for, IsEntry, IsKnown, IsList, Follows, SpellsAs, line, end_text, lines_of}
use Rattle.flat_list.proofs.Prelude.{Begins, max_entries, IsTooLong, IsRefused, all_more, line_same, joined_lines, Form, cons_parts}
use Rattle.std.proofs.Common.{append-nil}
use Rattle.flat_list.proofs.Lines.{one_text, one_target, end_apart, target_apart, end_no_target}
use Rattle.flat_list.proofs.Pieces.{Piece, own, target, target_pieces, pieces_of, piece_line, IsPiece, IsFile, own_count, own_more, own_is, each_of, follows_in}
use Rattle.whole_lines.proofs.WholeLines as whole

pub list_more : (es : List Entry) (e : Entry) → IsList es → IsEntry e → Follows es e → length es + 1 < 2 ^ 64 → IsList (es ++ e ∷ [])
list_more es e is one follows few = record {
  count = subst (λ n. n < 2 ^ 64) (sym (length-append es (e ∷ []))) few;
  each = all_more IsEntry es e is.each one;
  ascend = follows;
}

-- what is written is read as what was written, of paths and of targets
pub record Undoes : Type 0 where
  pub paths : ReadingUndoesWriting
  pub links : LinkReadingUndoesWriting

-- ---- list files as files of whole lines: one line a piece

same_piece : Undoes → (v : Version) (p q : Piece) → IsPiece v p → IsPiece v q → piece_line p ≡ piece_line q → p ≡ q
same_piece undoes v (own d) (own e) is one same = ap own (one_text undoes.paths v d e is one (line_same (text_of d) (text_of e) same))
same_piece undoes v (own d) (target t) is one same = absurd (target_apart d t (line_same (text_of d) (target_text t) same))
same_piece undoes v (target t) (own d) is one same = absurd (target_apart d t (sym (line_same (target_text t) (text_of d) same)))
same_piece undoes v (target t) (target u) is one same =
    ap target (one_target undoes.links t u is.1 one.1 (line_same (target_text t) (target_text u) same))

pub one_piece : Undoes → (v : Version) (p q : Piece) (rest more : List (List ℕ)) → IsPiece v p → IsPiece v q →
    piece_line p ∷ rest ≡ piece_line q ∷ more → p ≡ q
one_piece undoes v p q rest more is one same = same_piece undoes v p q is one (cons_parts _ _ _ _ same).0

abbrev pub end_line : List Piece → List ℕ
end_line ps = line (end_text (own_count ps))

pub no_end : (p : Piece) (ps : List Piece) → piece_line p ≡ end_line ps → ⊥
no_end (own e) ps same = end_apart e (own_count ps) (line_same (text_of e) (end_text (own_count ps)) same)
no_end (target t) ps same = end_no_target t (own_count ps) (line_same (target_text t) (end_text (own_count ps)) same)

abbrev pub pieces : Undoes → Version → Form Piece
pieces undoes v = record {
  first = piece_line;
  others = λ p. [];
  final = end_line;
  IsItem = IsPiece v;
  IsFile = IsFile v;
  Follows = λ ps p. IsFile v (ps ++ p ∷ []);
  each = each_of v;
  follows = follows_in v;
  one = one_piece undoes v;
  apart = λ p ps is same. no_end p ps same;
}

pub is_final : (undoes : Undoes) (v : Version) (ps : List Piece) → whole.IsFinal (pieces undoes v) (end_line ps)
is_final undoes v ps p is same = no_end p ps same

-- what was read so far: the header and the lines of a list's entries stand first
pub record Stands (v : Version) (bytes : List ℕ) (es : List Entry) (more : List (List ℕ)) : Type 0 where
  pub list : IsList es
  pub known : AllByRecursion (IsKnown v) es
  pub text : lines_of bytes ≡ line (header_text v) ∷ (entry_lines es ++ more)

pub spelled : (v : Version) (bytes : List ℕ) (es : List Entry) → Stands v bytes es (line (end_text (length es)) ∷ []) → SpellsAs v bytes es
spelled v bytes es s = record { list = s.list; known = s.known; text = sym (joined_lines bytes) ∙ ap (flat_map (λ l. l)) s.text }

shorter : (n : ℕ) (xs ys : List (List ℕ)) → take (suc n) xs ≡ take (suc n) ys → take n xs ≡ take n ys
shorter n xs ys e = sym (take-take n (suc n) xs (omega arith)) ∙ ap (take n) e ∙ take-take n (suc n) ys (omega arith)

pub begins_less : (n : ℕ) (bytes : List ℕ) → Begins (suc n) bytes → Begins n bytes
begins_less n bytes b = record {
  version = b.version;
  entries = b.entries;
  list = b.list;
  known = b.known;
  same = shorter n (lines_of bytes) (lines_for b.version b.entries) b.same;
}

-- a header tells the version
pub same_version : (v w : Version) → line (header_text v) ≡ line (header_text w) → v ≡ w
same_version One One e = refl
same_version Two Two e = refl
same_version One Two e = let byte : 49 ≡ 50 = ap (λ l. get_or l 9 0) e in absurd (false≢true (ap (λ b. eqb b 50) byte))
same_version Two One e = let byte : 50 ≡ 49 = ap (λ l. get_or l 9 0) e in absurd (false≢true (ap (λ b. eqb b 49) byte))

-- how many lines there are
pub line_len : (es : List Entry) → length (entry_lines es) ≤ 2 * length es
line_len [] = omega arith
line_len (e ∷ es) = omega (arith, line_len es, length-append (target_lines e.target) (entry_lines es), one_at_most e.target)
  where
    one_at_most : (o : Option (List ℕ)) → length (target_lines o) ≤ 1
    one_at_most None = omega arith
    one_at_most (Some t) = omega arith

pub lines_more : (es : List Entry) (e : Entry) → entry_lines (es ++ e ∷ []) ≡ entry_lines es ++ lines_by e
lines_more es e = flat_map-append lines_by es (e ∷ []) ∙ ap (λ t. entry_lines es ++ t) (append-nil (lines_by e))

module _ (undoes : Undoes) where
  module _ (v : Version) where
    target_same : (o : Option (List ℕ)) (es : List Entry) → whole.lines_for (pieces undoes v) (target_pieces o ++ pieces_of es)
        ≡ target_lines o ++ whole.lines_for (pieces undoes v) (pieces_of es)
    target_same None es = refl
    target_same (Some t) es = refl

    pub same_lines : (es : List Entry) → whole.lines_for (pieces undoes v) (pieces_of es) ≡ entry_lines es
    same_lines [] = refl
    same_lines (e ∷ es) = ap (λ ls. line (text_of e) ∷ ls) (target_same e.target es ∙ ap (λ ls. target_lines e.target ++ ls) (same_lines es))

    pub file : (es : List Entry) → IsList es → AllByRecursion (IsKnown v) es → IsFile v (pieces_of es)
    file es list known = record { entries = es; list = list; known = known; same = refl }

    pub end_is : (es : List Entry) → end_line (pieces_of es) ≡ line (end_text (length es))
    end_is es = ap (λ n. line (end_text n)) (own_is es)

    -- the lines behind the header, as the form has them
    behind : (bytes : List ℕ) (es : List Entry) (more : List (List ℕ)) → Stands v bytes es more →
        lines_of bytes ≡ line (header_text v) ∷ (whole.lines_for (pieces undoes v) (pieces_of es) ++ more)
    behind bytes es more s = s.text ∙ ap (λ ls. line (header_text v) ∷ (ls ++ more)) (sym (same_lines es))

    lines_of_list : (es : List Entry) → lines_for v es
        ≡ line (header_text v) ∷ (whole.lines_for (pieces undoes v) (pieces_of es) ++ end_line (pieces_of es) ∷ [])
    lines_of_list es = (λ i. line (header_text v) ∷ (sym (same_lines es) i ++ sym (end_is es) i ∷ []))

    begins_as : (n : ℕ) (bytes : List ℕ) (ls : List (List ℕ)) → lines_of bytes ≡ line (header_text v) ∷ ls → (b : Begins (suc n) bytes) →
        v ≡ b.version →
        whole.Begins (pieces undoes v) n ls
    begins_as n bytes ls is b same = record {
      items = pieces_of b.entries;
      file = file b.entries b.list (subst (λ v. AllByRecursion (IsKnown v) b.entries) (sym same) b.known);
      same = (cons_parts _ _ _ _ (ap (take (suc n)) (sym is) ∙ b.same ∙ ap (λ v. take (suc n) (lines_for v b.entries)) (sym same)
          ∙ ap (take (suc n)) (lines_of_list b.entries))).1;
    }

    behind_header : (n : ℕ) (bytes : List ℕ) (ls : List (List ℕ)) → lines_of bytes ≡ line (header_text v) ∷ ls → Begins (suc n) bytes →
        whole.Begins (pieces undoes v) n ls
    behind_header n bytes ls is b =
        let head : line (header_text v) ≡ line (header_text b.version) = (cons_parts _ _ _ _ (ap (take (suc n)) (sym is) ∙ b.same)).0 in
        begins_as n bytes ls is b (same_version v b.version head)

    with_header : (n : ℕ) (bytes : List ℕ) (ls : List (List ℕ)) → lines_of bytes ≡ line (header_text v) ∷ ls →
        whole.Begins (pieces undoes v) n ls →
        Begins (suc n) bytes
    with_header n bytes ls is b = record {
      version = v;
      entries = b.file.entries;
      list = b.file.list;
      known = b.file.known;
      same = ap (take (suc n)) is ∙ ap (λ l. line (header_text v) ∷ l) b.same
          ∙ ap (λ ps. take (suc n) (line (header_text v) ∷ (whole.lines_for (pieces undoes v) ps ++ end_line ps ∷ []))) b.file.same
          ∙ ap (take (suc n)) (sym (lines_of_list b.file.entries));
    }

    count_is : (es : List Entry) → length (whole.lines_for (pieces undoes v) (pieces_of es)) ≡ length (entry_lines es)
    count_is es = ap length (same_lines es)

    -- ---- too many entries

    -- of two lists of pieces whose lines begin one text, the one that is no longer is a front of the other
    front_of : (ps qs : List Piece) (more rest : List (List ℕ)) → AllByRecursion (IsPiece v) ps → AllByRecursion (IsPiece v) qs →
        length qs ≤ length ps →
        whole.lines_for (pieces undoes v) ps ++ more ≡ whole.lines_for (pieces undoes v) qs ++ rest → (others : List Piece) × (ps ≡ qs ++ others)
    front_of ps [] more rest each all le e = (ps, refl)
    front_of [] (q ∷ qs) more rest each all le e = absurd (omega arith)
    front_of (p ∷ ps) (q ∷ qs) more rest each all le e =
        let parts = cons_parts _ _ _ _ e in
        let here : p ≡ q = same_piece undoes v p q each.0 all.0 parts.0 in
        let r = front_of ps qs more rest each.1 all.1 (omega arith) parts.1 in
        (r.0, (λ i. here i ∷ r.1 i))

    -- so the other has no fewer entries
    no_fewer : (es fs : List Entry) (more rest : List (List ℕ)) → IsFile v (pieces_of es) → IsFile v (pieces_of fs) →
        length (pieces_of fs) ≤ length (pieces_of es) →
        whole.lines_for (pieces undoes v) (pieces_of es) ++ more ≡ whole.lines_for (pieces undoes v) (pieces_of fs) ++ rest → length fs ≤ length es
    no_fewer es fs more rest is other le e =
        let f = front_of (pieces_of es) (pieces_of fs) more rest (each_of v _ is) (each_of v _ other) le e in
        let count : own_count (pieces_of es) ≡ own_count (pieces_of fs) + own_count f.0 = ap own_count f.1 ∙ own_more (pieces_of fs) f.0 in
        omega (arith, count, own_is es, own_is fs)

    too_many_as : {bytes : List ℕ} {ls : List (List ℕ)} → lines_of bytes ≡ line (header_text v) ∷ ls → (t : IsTooLong bytes) → v ≡ t.version →
        ls ≡ whole.lines_for (pieces undoes v) (pieces_of t.entries) ++ t.rest
    too_many_as is t same =
        (cons_parts _ _ _ _ (sym is ∙ t.text ∙ ap (λ v. line (header_text v) ∷ (entry_lines t.entries ++ t.rest)) (sym same))).1
        ∙ ap (λ ls. ls ++ t.rest) (sym (same_lines t.entries))

    version_is : {bytes : List ℕ} {ls : List (List ℕ)} → lines_of bytes ≡ line (header_text v) ∷ ls → (t : IsTooLong bytes) → v ≡ t.version
    version_is is t = same_version v t.version (cons_parts _ _ _ _ (sym is ∙ t.text)).0

    -- with the lines of no more entries than a list may have, and a line behind them that goes on with none, a text is not too long
    pub not_long : {bytes : List ℕ} (es : List Entry) (more : List (List ℕ)) → IsFile v (pieces_of es) →
        lines_of bytes ≡ line (header_text v) ∷ (whole.lines_for (pieces undoes v) (pieces_of es) ++ more) → length es ≤ max_entries →
        ((fs : List Entry) (rest : List (List ℕ)) → IsFile v (pieces_of fs) → length (pieces_of es) < length (pieces_of fs) →
        whole.lines_for (pieces undoes v) (pieces_of es) ++ more ≡ whole.lines_for (pieces undoes v) (pieces_of fs) ++ rest → ⊥) →
        IsTooLong bytes → ⊥
    not_long es more is text few short t =
        let same = version_is text t in
        let other : IsFile v (pieces_of t.entries) = file t.entries t.list (subst (λ v. AllByRecursion (IsKnown v) t.entries) (sym same) t.known) in
        let both = too_many_as text t same in
        elim (cases_lt (length (pieces_of es)) (length (pieces_of t.entries))) [
          | inl lt ↦ short t.entries t.rest other lt both
          | inr le ↦
              let most = no_fewer es t.entries more t.rest is other le both in
              absurd (omega (arith, most, few, t.many))
        ]

    -- ---- the first line with which no list file goes on

    pub refused_here : (bytes : List ℕ) (es : List Entry) (more : List (List ℕ)) → Stands v bytes es more →
        whole.IsBad (pieces undoes v) (pieces_of es) [] more → length es ≤ max_entries → IsRefused bytes (length (entry_lines es) + 2)
    refused_here bytes es more s bad few =
        let is = behind bytes es more s in
        let own = file es s.list s.known in
        let count = count_is es in
        let here : length (entry_lines es) + 2 ≡ suc (suc (length (whole.lines_for (pieces undoes v) (pieces_of es)) + 0)) = omega arith in
        let before : length (entry_lines es) + 2 - 1 ≡ suc (length (whole.lines_for (pieces undoes v) (pieces_of es))) = omega arith in
        record {
          damaged = record {
            first = omega arith;
            before = subst (λ n. Begins n bytes) (sym before) (with_header _ bytes _ is (whole.begun (pieces undoes v) (pieces_of es) more own));
            through = λ b. whole.bad_line (pieces undoes v) (pieces_of es) [] more own bad
                (behind_header _ bytes _ is (subst (λ n. Begins n bytes) here b));
          };
          short = not_long es more own is few (λ fs rest other lt e.
              whole.bad_is_short (pieces undoes v) (pieces_of es) (pieces_of fs) [] more rest own other bad lt e);
        }

    pub refused_after : (bytes : List ℕ) (es : List Entry) (m : List ℕ) (ms : List (List ℕ)) →
        Stands v bytes es (line (end_text (length es)) ∷ m ∷ ms) → length es ≤ max_entries → IsRefused bytes (length (entry_lines es) + 3)
    refused_after bytes es m ms s few =
        let whole_text = s.text ∙ ap (λ l. line (header_text v) ∷ (entry_lines es ++ l ∷ m ∷ ms)) (sym (end_is es)) in
        let is = whole_text ∙ ap (λ ls. line (header_text v) ∷ (ls ++ end_line (pieces_of es) ∷ m ∷ ms)) (sym (same_lines es)) in
        let own = file es s.list s.known in
        let count = count_is es in
        let here : length (entry_lines es) + 3 ≡ suc (suc (suc (length (whole.lines_for (pieces undoes v) (pieces_of es))))) = omega arith in
        let before : length (entry_lines es) + 3 - 1 ≡ suc (suc (length (whole.lines_for (pieces undoes v) (pieces_of es)))) = omega arith in
        record {
          damaged = record {
            first = omega arith;
            before = subst (λ n. Begins n bytes) (sym before) (with_header _ bytes _ is (whole.ended (pieces undoes v) (pieces_of es) (m ∷ ms) own));
            through = λ b. whole.line_behind (pieces undoes v) (pieces_of es) m ms own
                (behind_header _ bytes _ is (subst (λ n. Begins n bytes) here b));
          };
          short = not_long es (end_line (pieces_of es) ∷ m ∷ ms) own is few (λ fs rest other lt e.
              whole.end_is_short (pieces undoes v) (pieces_of es) (pieces_of fs) (m ∷ ms) rest own other lt e);
        }
